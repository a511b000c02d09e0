use Rattle.claim_core.proofs.Keeping.{after_all_agrees, started_agrees}
use Rattle.claim_core.specs.Claims.{started}
use Rattle.claim_core.proofs.laws.runs_agree.Goals as goal

pub returns : goal.returns
returns c = λ mutants cells workers events range. after_all_agrees events (started mutants cells workers) range (started_agrees mutants cells workers)
