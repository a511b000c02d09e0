-- The edit of each mutant of a class fits it.
use Rattle.std.proofs.Common.{◌≡◌, ℕ, List, Option, Some, None, refl, sym, ap, subst, ◌∙◌}
use Rattle.std.specs.Prelude.{slice_get, slice_index_or, option_and_then}
use Rattle.std.proofs.lemmas.List.Elements.{Contains-get_or, recursion_from_All}
use Rattle.class_model.specs.declared.attribute.Code.{Code, out-Code}
use Rattle.class_model.specs.declared.class.Class.{Class}
use Rattle.class_model.specs.declared.class.Member.{Member}
use Rattle.class_model.specs.declared.edit.Edit.{Edit}
use Rattle.class_model.specs.declared.instruction.Insn.{Insn}
use Rattle.mt_insn.specs.Code.{HasForm}
use Rattle.class_writer.specs.Writing.{HasClassForm}
use Rattle.mutator_ops.specs.Changes.{new_insns}
use Rattle.mutator_ops.specs.Laws.{IsMutant, ListedExactly}
use Rattle.mutator_ops.specs.Mutants.{asked_of, code_of, class_mutants}
use Rattle.mutator_ops.specs.declared.mutant.Mutant.{Mutant}
use Rattle.mutant_apply.specs.Edited.{named_code}
use Rattle.mutant_apply.specs.Fitting.{FitsInsn, FitsCode, Fits}
use Rattle.mutant_apply.specs.Laws.{MutantsFit}
use Rattle.mutant_apply.proofs.Lists.{all_at}
use Rattle.mutant_apply.proofs.ChangeLaws.{row_right, change_fits}
use Rattle.mutant_apply.proofs.Keeping.{named_form}

-- the code that a mutant's edit names
pub mutant_code : (class : Class) (m : Mutant) (x : IsMutant class m) → named_code m.edit class ≡ Some x.code
mutant_code class m x = ap (λ (o : Option Member). option_and_then (λ (member : Member). code_of member.attrs) o) x.declared ∙ x.coded

mutant_fits : (class : Class) (m : Mutant) → HasClassForm class → IsMutant class m → Fits class m.edit
mutant_fits class m form x =
    let coded = mutant_code class m x in
    let known = named_form class m.edit x.code form coded in
    let formed : HasForm x.insn = all_at HasForm (out-Code x.code).insns m.at x.insn (recursion_from_All HasForm (out-Code x.code).insns known.forms) x.stands in
    let made : FitsInsn class.pool (new_insns class.pool x.change x.insn) (Some x.insn) = change_fits class.pool x.insn x.change formed (row_right x.insn m.mutator (asked_of class.pool x.member) x.change formed x.applies) in
    let with : m.edit.with ≡ new_insns class.pool x.change x.insn = ap (λ (m : Mutant). m.edit.with) x.is in
    let at : m.edit.at ≡ m.at = ap (λ (m : Mutant). m.edit.at) x.is in
    let there : slice_get (out-Code x.code).insns m.edit.at ≡ Some x.insn = ap (slice_get (out-Code x.code).insns) at ∙ x.stands in
    subst (FitsCode class.pool m.edit) (sym coded) (subst (FitsInsn class.pool m.edit.with) (sym there) (subst (λ w. FitsInsn class.pool w (Some x.insn)) (sym with) made))

pub mutants_fit_all : ListedExactly → MutantsFit
mutants_fit_all listed class form = λ k d lt. mutant_fits class (slice_index_or (class_mutants class) k d) form ((listed class (slice_index_or (class_mutants class) k d)).0 (Contains-get_or (class_mutants class) k d lt))
