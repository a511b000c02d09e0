use Rattle.std.proofs.Common.{◌≡◌}
use Rattle.std.specs.Vec.Iter.{into_iter_items}
use Rattle.job_rules.specs.Gathered.{put_all}
use Rattle.worker_gate.proofs.settled.place_list.Given as goal

abbrev pub invariant-loop-cell : goal.invariant-loop-cell
invariant-loop-cell g l =
    put_all (into_iter_items l.cell-iterator) l.places ≡ put_all l.fn.list.items l.initial.places
