use Rattle.report_laws.proofs.Filed.{mutants_once}
use Rattle.report_laws.proofs.mutants_stand_once.Goals as goal

pub returns : goal.returns
returns c = mutants_once
