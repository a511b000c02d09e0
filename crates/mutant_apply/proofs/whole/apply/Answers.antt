use Rattle.std.proofs.Common.{◌≡◌, ◌∙◌, Some, sym, subst}
use Rattle.class_writer.specs.Writing.{HasClassForm}
use Rattle.mutant_apply.specs.Edited.{edited_parts}
use Rattle.mutant_apply.proofs.Keeping.{edit_keeps}
use Rattle.mutant_apply.proofs.whole.apply.Goals as goal

pub write_class-requires : goal.write_class-requires
write_class-requires c =
    let class = c.args.class.now in
    let edit = c.args.edit.now in
    let made : edited_parts edit class ≡ Some c.in-Some.parts = sym c.in_ok-parts.ensures ∙ c.in-Some.is in
    subst HasClassForm (sym c.in_ok-edited.ensures) (edit_keeps class edit c.in-Some.parts c.requires.form c.requires.fits made)
