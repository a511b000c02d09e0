use Rattle.std.proofs.Common.{◌≡◌}
use Rattle.suite_workers.specs.Originals.{originals_from}
use Rattle.suite_workers.proofs.Lists.{pushed}
use Rattle.suite_workers.proofs.originals.workers_for.Goals as goal

pub loop-preserved : goal.loop-preserved
loop-preserved c = pushed (λ w. w ≡ originals_from c.args.program.now c.args.setup.now) c.loop.hands.items c.push.new.self.items c.in_ok-worker.worker c.loop.counter c.in_ok-push.ensures.items c.in_ok-worker.ensures c.loop.invariant
