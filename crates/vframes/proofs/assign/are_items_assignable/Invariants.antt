use Rattle.std.proofs.Common.{◌≡◌, length}
use Rattle.type_rules.specs.References.{classes_of}
use Rattle.type_rules.specs.Assignability.{stack_assignable}
use Rattle.class_table.specs.Table.{look}
use Rattle.vframes.specs.View.{types_in}
use Rattle.vframes.proofs.assign.are_items_assignable.Given as goal

abbrev pub invariant-loop-items : goal.invariant-loop-items
invariant-loop-items l =
    stack_assignable (classes_of (look l.program)) (types_in l.names l.items) (types_in l.names l.others)
    ≡ stack_assignable (classes_of (look l.program)) (types_in l.names l.fn.from) (types_in l.names l.fn.to)

abbrev pub decreases-loop-items : goal.decreases-loop-items
decreases-loop-items l = length l.items
