use Rattle.test_list_laws.proofs.Witness.{a_test}
use Rattle.test_list_laws.proofs.a_test_is_met.Goals as goal

pub returns : goal.returns
returns c = a_test
