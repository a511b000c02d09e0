use Rattle.suite_runs.proofs.CoveringAll.{covering_next}
use Rattle.suite_runs.proofs.covering.covering_all.Goals as goal

pub loop-at-preserved : goal.loop-at-preserved
loop-at-preserved c =
    covering_next c.args.program.now c.args.cover.now c.args.mutants.now c.args.viable.now c.loop-at.at c.index-mutants-at.result _ c.loop-at.all c.push.new.self c.in_ok-tests.tests c.requires.viable c.loop-at-test.true c.index-mutants-at.is c.loop-at.invariant c.in_ok-tests.ensures c.in_ok-push.ensures.ok
