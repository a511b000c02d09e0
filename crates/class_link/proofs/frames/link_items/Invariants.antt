use Rattle.std.proofs.Common.{◌≡◌, map, take}
use Rattle.class_link.specs.Linking as linking
use Rattle.class_link.specs.View.{vtype_of}
use Rattle.class_link.proofs.frames.link_items.Given as goal

abbrev pub invariant-loop-item : goal.invariant-loop-item
invariant-loop-item l =
    map vtype_of l.linked.items ≡ map (linking.vtype_in l.classes) (take l.item-index l.items)
