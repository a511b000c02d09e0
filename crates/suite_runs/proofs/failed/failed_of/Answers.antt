use Rattle.suite_runs.proofs.FailedOnes.{failed_more}
use Rattle.suite_runs.proofs.failed.failed_of.Goals as goal

pub loop-number-preserved : goal.loop-number-preserved
loop-number-preserved c =
    failed_more c.args.runs.now c.loop-number.number c.index-runs-number.result c.in_ok-outcome.outcome c.loop-number.failed.items c.note.new.failed.items c.loop-number-test.true c.index-runs-number.is c.in_ok-outcome.ensures c.loop-number.invariant c.in_ok-note.ensures
