use Rattle.test_list_laws.proofs.Apart.{tests_apart}
use Rattle.test_list_laws.proofs.tests_stand_once.Goals as goal

pub returns : goal.returns
returns c = tests_apart
