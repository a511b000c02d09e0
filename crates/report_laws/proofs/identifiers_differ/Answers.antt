use Rattle.report_laws.proofs.Ids.{ids_differ}
use Rattle.report_laws.proofs.identifiers_differ.Goals as goal

pub returns : goal.returns
returns c = ids_differ
