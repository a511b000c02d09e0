use Rattle.std.proofs.Common.{◌≡◌}
use Rattle.std.specs.Prelude.{All}
use Rattle.worker_gate.specs.Sharing.{HasCountedNothing}
use Rattle.worker_gate.proofs.sharing.give_back.Given as goal

abbrev pub invariant-loop-job : goal.invariant-loop-job
invariant-loop-job g l = All HasCountedNothing l.jobs.items × (l.meter ≡ l.initial.meter)

abbrev pub decreases-loop-job : goal.decreases-loop-job
decreases-loop-job g l = goal.left-loop-job g l
