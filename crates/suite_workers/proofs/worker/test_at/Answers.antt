use Rattle.std.proofs.Common.{◌∙◌}
use Rattle.suite_workers.specs.Old.{no_test}
use Rattle.suite_workers.proofs.Lists.{at_default}
use Rattle.suite_workers.proofs.worker.test_at.Goals as goal

pub returns : goal.returns
returns c = c.index-tests-number.is ∙ at_default c.args.tests.now c.args.number c.index-tests-number.result no_test c.requires
