use Rattle.std.proofs.Common.{◌∙◌, ap, sym, subst}
use Rattle.class_link.specs.Symbols.{kind_of}
use Rattle.class_link.specs.View.{field_of}
use Rattle.jvm_rows.specs.Effects.{Runs}
use Rattle.jvm_members.specs.FieldRows.{slot_row}
use Rattle.jvm_members.proofs.fields.access_slot.Goals as goal

pub returns-in_ok-done-in-Get-clause-row : goal.returns-in_ok-done-in-Get-clause-row
returns-in_ok-done-in-Get-clause-row c = λ x same kind.
    subst (λ k. Runs c.args.p.now (slot_row k x) c.in_ok-done-in-Get.done c.args.frames.now c.get_field.new.frames c.args.world.now c.get_field.new.world) (sym c.in-Get.is) (c.in_ok-done-in-Get.ensures.row x same)

pub returns-in_ok-done-in-Put-clause-row : goal.returns-in_ok-done-in-Put-clause-row
returns-in_ok-done-in-Put-clause-row c = λ x same kind.
    subst (λ k. Runs c.args.p.now (slot_row k x) c.in_ok-done-in-Put.done c.args.frames.now c.put_field.new.frames c.args.world.now c.put_field.new.world) (sym c.in-Put.is)
    (c.in_ok-done-in-Put.ensures.row x same (kind (field_of c.field_at-declared.result.now) c.field_at-declared.ensures ∙ ap kind_of (sym c.deref.ensures)))
