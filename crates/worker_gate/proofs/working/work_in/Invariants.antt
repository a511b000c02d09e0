use Rattle.std.proofs.Common.{◌≡◌}
use Rattle.worker_gate.specs.Ends.{Working, IsSameWorker}
use Rattle.worker_gate.proofs.working.work_in.Given as goal

abbrev pub invariant-loop : goal.invariant-loop
invariant-loop g l = (g.C.Hands.job l.end.job.hands ≡ g.C.Hands.job l.initial.end.job.hands)
    × IsSameWorker l.initial.end l.end
    × Working g.C.Hands.reading l.table.table.shared.table_id l.table.table.shared.key l.plan (g.C.Hands.job l.initial.end.job.hands) l.end
