use Rattle.std.proofs.Common.{◌≡◌, Some, rules}
use Rattle.mutant_apply.specs.Edited.{named_code}
use Rattle.mutant_apply.proofs.Keeping.{named_form}
use Rattle.mutant_apply.proofs.whole.parts_or_refusal.Goals as goal

pub edited_code-requires-clause-form : goal.edited_code-requires-clause-form
edited_code-requires-clause-form c =
    let class = c.args.class.now in
    let edit = c.args.edit.now in
    let named : named_code edit class ≡ Some c.in-Some.code.now = search rules in
    named_form class edit c.in-Some.code.now c.requires.form named
