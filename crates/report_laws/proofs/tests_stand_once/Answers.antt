use Rattle.report_laws.proofs.Filed.{tests_once}
use Rattle.report_laws.proofs.tests_stand_once.Goals as goal

pub returns : goal.returns
returns c = tests_once
