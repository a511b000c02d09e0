use Rattle.reuse_laws.proofs.Matching.{own_match, kept_found}
use Rattle.reuse_laws.proofs.records_match_their_runs.Goals as goal

pub returns : goal.returns
returns c = record { own = own_match; found = kept_found }
