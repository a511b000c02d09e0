use Rattle.std.proofs.Common.{◌≡◌, ◌∙◌, Some, sym}
use Rattle.mutant_apply.specs.Edited.{edited_parts}
use Rattle.mutant_apply.proofs.Keeping.{edit_keeps}
use Rattle.mutant_apply.proofs.spliced.parts_and_bytes.Goals as goal

pub edited_bytes-requires-clause-form : goal.edited_bytes-requires-clause-form
edited_bytes-requires-clause-form c =
    let class = c.args.class.now in
    let edit = c.args.edit.now in
    let made : edited_parts edit class ≡ Some c.in-Some.parts = sym c.in_ok-parts.ensures ∙ c.in-Some.is in
    edit_keeps class edit c.in-Some.parts c.requires.form c.requires.fits made
