use Rattle.std.proofs.Common.{◌≡◌, ◌-◌, map, drop, length}
use Rattle.class_link.specs.View.{field_of}
use Rattle.jvm_initialization.specs.Constants.{constants_in, texts_in, have_room}
use Rattle.jvm_initialization.proofs.constants.fields_have_room.Given as goal

abbrev pub invariant-loop-at : goal.invariant-loop-at
invariant-loop-at l =
    have_room (texts_in l.world l.fn.counted) l.world.limits.heap l.world.heap.used
    (constants_in l.all_static 0 (map field_of l.fields))
    ≡ have_room (texts_in l.world l.counted) l.world.limits.heap l.used
    (constants_in l.all_static l.at (map field_of (drop l.at l.fields)))

abbrev pub decreases-loop-at : goal.decreases-loop-at
decreases-loop-at l = length l.fields - l.at
