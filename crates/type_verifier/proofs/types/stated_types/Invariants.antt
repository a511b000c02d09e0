use Rattle.std.proofs.Common.{map, take}
use Rattle.class_link.specs.View.{vtype_of}
use Rattle.type_verifier.specs.Tables.{Adds, TypesLast}
use Rattle.type_verifier.proofs.types.stated_types.Given as goal

abbrev pub invariant-loop-item : goal.invariant-loop-item
invariant-loop-item l =
    Adds l.program l.fn.names l.names
    × TypesLast l.names.list.items l.types.items (map vtype_of (take l.item-index l.stated))
