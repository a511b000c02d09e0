use Rattle.std.proofs.Common.{◌≡◌, map}
use Rattle.std.specs.Vec.Iter.{into_iter_items}
use Rattle.job_rules.specs.Gathered.{flat, put_all}
use Rattle.worker_gate.specs.Settled.{items_of}
use Rattle.worker_gate.proofs.settled.place_lists.Given as goal

abbrev pub invariant-loop-list : goal.invariant-loop-list
invariant-loop-list g l =
    put_all (flat (map items_of (into_iter_items l.list-iterator))) l.places ≡ put_all (flat (map items_of l.fn.lists.items)) l.initial.places
