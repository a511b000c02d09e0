use Rattle.std.proofs.Common.{◌≡◌, ◌∙◌, ◌<◌, ◌^◌, ◌-◌, ◌+◌, refl, sym, ap, subst, ℕ, List, [], length, Some, arith}
use Rattle.std.specs.Prelude.{All, slice_get}
use Rattle.class_model.specs.declared.attribute.Code.{out-Code}
use Rattle.class_model.specs.declared.constant.Const.{Const}
use Rattle.class_model.specs.declared.instruction.Insn.{Insn}
use Rattle.mt_insn.specs.Code.{HasForm, HasTargets}
use Rattle.mutant_apply.specs.Edited.{mover, new_insns, edited_insns}
use Rattle.mutant_apply.proofs.NearLaws.{code_near, new_insns_near}
use Rattle.mutant_apply.proofs.CodeForms.{there_is, with_some}
use Rattle.mutant_apply.proofs.Keeping.{fitting, too_many, forms_kept, targets_kept}
use Rattle.mutant_apply.proofs.code.edited_code.Goals as goal

pub returns-then-len-gt-MOST : goal.returns-then-len-gt-MOST
returns-then-len-gt-MOST c =
    let code = out-Code c.args.code.now in
    let edit = c.args.edit.now in
    let k = fitting c.args.pool.now edit.with code.insns edit.at c.requires.fits in
    λ e. too_many c.args.pool.now edit c.args.code.now c.requires.fits (omega (arith, with_some edit.with k.2.0))

pub returns-then-len-gt-MOST-2 : goal.returns-then-len-gt-MOST-2
returns-then-len-gt-MOST-2 c =
    let code = out-Code c.args.code.now in
    let edit = c.args.edit.now in
    let k = fitting c.args.pool.now edit.with code.insns edit.at c.requires.fits in
    λ e. too_many c.args.pool.now edit c.args.code.now c.requires.fits (omega (arith, there_is code.insns edit.at k.0 k.1))

pub mover-by-requires-clause-some : goal.mover-by-requires-clause-some
mover-by-requires-clause-some c =
    let edit = c.args.edit.now in
    let k = fitting c.args.pool.now edit.with (out-Code c.args.code.now).insns edit.at c.requires.fits in
    with_some edit.with k.2.0

pub new_insns-requires : goal.new_insns-requires
new_insns-requires c =
    let code = out-Code c.args.code.now in
    let edit = c.args.edit.now in
    new_insns_near c.args.pool.now edit.with code.insns edit.at (code_near code (omega arith) c.requires.form).insns c.requires.fits

pub edited_insns-requires-clause-near : goal.edited_insns-requires-clause-near
edited_insns-requires-clause-near c = (code_near (out-Code c.args.code.now) (omega arith) c.requires.form).insns

pub edited_insns-requires-clause-here : goal.edited_insns-requires-clause-here
edited_insns-requires-clause-here c =
    let code = out-Code c.args.code.now in
    let edit = c.args.edit.now in
    let k = fitting c.args.pool.now edit.with code.insns edit.at c.requires.fits in
    there_is code.insns edit.at k.0 k.1

pub is_laid_out-requires-clause-forms : goal.is_laid_out-requires-clause-forms
is_laid_out-requires-clause-forms c =
    let code = out-Code c.args.code.now in
    let edit = c.args.edit.now in
    let pool = c.args.pool.now in
    let k = fitting pool edit.with code.insns edit.at c.requires.fits in
    let by = c.mover-by.ensures in
    let none = c.empty-added.ensures in
    let whole = c.as_slice.ensures in
    let new = c.in_ok-new.ensures in
    let made : new_insns pool (mover edit) edit.with [] ≡ Some (c.in_ok-new.new, c.new_insns.new.added) = cc in
    let kept = forms_kept pool edit code c.requires.form k.0 k.1 k.2 (c.in_ok-new.new, c.new_insns.new.added) made (omega arith) in
    subst (All HasForm) (sym c.in_ok-insns.ensures) kept

pub is_laid_out-requires-clause-targets : goal.is_laid_out-requires-clause-targets
is_laid_out-requires-clause-targets c =
    let code = out-Code c.args.code.now in
    let edit = c.args.edit.now in
    let pool = c.args.pool.now in
    let k = fitting pool edit.with code.insns edit.at c.requires.fits in
    let by = c.mover-by.ensures in
    let none = c.empty-added.ensures in
    let whole = c.as_slice.ensures in
    let new = c.in_ok-new.ensures in
    let made : new_insns pool (mover edit) edit.with [] ≡ Some (c.in_ok-new.new, c.new_insns.new.added) = cc in
    let kept = targets_kept pool edit code c.requires.form k.0 k.1 k.2 (c.in_ok-new.new, c.new_insns.new.added) made (omega arith) in
    subst (λ (insns : List Insn). All (HasTargets (length insns)) insns) (sym c.in_ok-insns.ensures) kept

pub code_with-requires-clause-near : goal.code_with-requires-clause-near
code_with-requires-clause-near c = code_near (out-Code c.args.code.now) (omega arith) c.requires.form
