use Rattle.std.proofs.Common.{refl}
use Rattle.suite_workers.proofs.Walked.{goes_on}
use Rattle.suite_workers.proofs.said.said_of_one.Goals as goal

pub loop-test-preserved : goal.loop-test-preserved
loop-test-preserved c = goes_on c.args.all c.args.tests.now c.args.ends.now.items c.args.records.now.items c.loop-test.test-index _ c.loop-test.unsettled c.in_ok-unsettled.unsettled c.loop-test.ends.items c.add_next.new.ends.items c.loop-test.said.items c.add_next.new.said.items c.loop-test.records.items c.add_next.new.records.items c.loop-test-test.true refl c.loop-test.invariant c.in_ok-unsettled.ensures
