use Rattle.suite_workers.proofs.Suites.{bounds_by_name}
use Rattle.suite_workers.proofs.laws.bounds_are_by_name.Goals as goal

pub returns : goal.returns
returns c = bounds_by_name c.found_are_own_tests.ensures
