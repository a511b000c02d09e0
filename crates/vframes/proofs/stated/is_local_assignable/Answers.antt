use Rattle.std.proofs.Common.{◌≡◌, ◌∙◌, sym, ap, Some, None}
use Rattle.type_rules.specs.References.{classes_of}
use Rattle.type_rules.specs.Assignability.{assignable}
use Rattle.class_table.specs.Table.{look}
use Rattle.vframes.specs.declared.slot_type.SlotType.{SlotType}
use Rattle.vframes.specs.View.{type_of}
use Rattle.vframes.proofs.stated.is_local_assignable.Goals as goal

pub returns-in-Some : goal.returns-in-Some
returns-in-Some c = λ u e.
    let there : Some c.in-Some.t ≡ Some u = sym c.in-Some.is ∙ c.type_at.ensures ∙ e in
    let same : c.in-Some.t ≡ u = cc in
    c.is_assignable.ensures
    ∙ ap (λ t. assignable (classes_of (look c.args.program.now)) (type_of c.args.names.now t) (type_of c.args.names.now c.args.to)) same

pub returns-in-None : goal.returns-in-None
returns-in-None c = λ u e.
    let there : None ≡ Some u = sym c.in-None.is ∙ c.type_at.ensures ∙ e in
    absurd cc
