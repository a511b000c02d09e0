use Rattle.std.proofs.Common.{◌∙◌}
use Rattle.class_table.specs.declared.scripted.Test.{Test}
use Rattle.history_index.specs.Numbers.{test_number}
use Rattle.suite_workers.proofs.Lists.{map_next}
use Rattle.suite_workers.proofs.look_ups.numbers_of.Goals as goal

pub loop-test-preserved : goal.loop-test-preserved
loop-test-preserved c =
    c.in_ok-push.ensures.items
    ∙ map_next (λ (t : Test). test_number c.args.index.now t.class t.method) c.args.tests.now c.loop-test.test-index c.test-item.result c.loop-test.numbers.items c.in_ok-number.number c.loop-test-test.true c.test-item.is c.loop-test.invariant c.in_ok-number.ensures
