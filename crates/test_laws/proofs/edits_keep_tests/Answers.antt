use Rattle.test_laws.proofs.Edited.{keeps_tests, keeps_name}
use Rattle.test_laws.proofs.edits_keep_tests.Goals as goal

pub returns : goal.returns
returns c = record { tests = keeps_tests c.applied_is_made.ensures; name = keeps_name c.applied_is_made.ensures }
