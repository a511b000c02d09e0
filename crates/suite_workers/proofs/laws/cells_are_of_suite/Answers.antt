use Rattle.suite_workers.proofs.Suites.{of_suite}
use Rattle.suite_workers.proofs.laws.cells_are_of_suite.Goals as goal

pub returns : goal.returns
returns c = of_suite
