use Rattle.test_laws.proofs.Found.{found_tests}
use Rattle.test_laws.proofs.found_are_tests_of.Goals as goal

pub returns : goal.returns
returns c = found_tests
