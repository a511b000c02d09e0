use Rattle.test_laws.proofs.Declared.{declare_once}
use Rattle.test_laws.proofs.accepted_declare_once.Goals as goal

pub returns : goal.returns
returns c = declare_once
