use Rattle.std.proofs.Common.{◌≡◌, List, reverse, sym, ap, ◌∙◌}
use Rattle.type_rules.specs.References.{classes_of}
use Rattle.type_rules.specs.Assignability.{stack_assignable}
use Rattle.class_table.specs.Table.{look}
use Rattle.vframes.specs.View.{types_in}
use Rattle.vframes.proofs.Reversed.{either_way}
use Rattle.vframes.proofs.assign.is_stack_assignable.Goals as goal

pub returns : goal.returns
returns c =
    let p = classes_of (look c.args.program.now) in
    let ns = c.args.names.now in
    c.are_items_assignable.ensures
    ∙ sym (either_way p ns c.as_slice.result.now c.as_slice-2.result.now)
    ∙ ap (λ l. stack_assignable p (types_in ns l) (types_in ns (reverse c.as_slice-2.result.now))) c.as_slice.ensures
    ∙ ap (λ l. stack_assignable p (types_in ns c.args.from.now) (types_in ns l)) c.as_slice-2.ensures
