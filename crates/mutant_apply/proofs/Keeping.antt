-- An edit that fits keeps the form of a class.
use Rattle.std.proofs.Common.{◌≡◌, ℕ, zero, suc, ◌+◌, ◌-◌, ◌^◌, ◌≤◌, ◌<◌, Bool, true, false, List, [], ◌∷◌, ◌++◌, length, map, Option, Some, None, Result, Ok, Err, refl, sym, ap, subst, ◌∙◌, inl, inr, arith}
use Rattle.std.specs.Prelude.{All, ◌≢◌, ◌⊎◌, ◌&&◌, nat_lt, slice_get, option_and_then, if◌then◌else◌}
use Rattle.std.specs.List.{AllByRecursion}
use Rattle.std.proofs.lemmas.Bool.{ltb-true, and_parts}
use Rattle.std.proofs.lemmas.List.Elements.{All-from_recursion, recursion_from_All}
use Rattle.class_model.specs.declared.attribute.Attr.{Attr}
use Rattle.class_model.specs.declared.attribute.Code.{Code, roll-Code, out-Code}
use Rattle.class_model.specs.declared.attribute.Row.{Row}
use Rattle.class_model.specs.declared.attribute.Body.{Body}
use Rattle.class_model.specs.declared.attribute.Body.TheVariants as body
use Rattle.class_model.specs.declared.attribute.Body.TheOpen.{Body-F, Code-F}
use Rattle.class_model.specs.declared.attribute.Body.TheViews.{the_lemmas, out-roll-Code}
use Rattle.class_model.specs.declared.class.Class.{Class}
use Rattle.class_model.specs.declared.class.Member.{Member}
use Rattle.class_model.specs.declared.constant.Const.{Const}
use Rattle.class_model.specs.declared.edit.Edit.{Edit}
use Rattle.class_model.specs.declared.edit.NewInsn.{NewInsn}
use Rattle.class_model.specs.declared.fault.LayoutFault.{LayoutFault}
use Rattle.class_model.specs.declared.instruction.Insn.{Insn}
use Rattle.mt_insn.specs.Code.{HasForm, HasTargets, size_at, end_from, places, code_length, jumps_fit}
use Rattle.mt_insn.specs.Code as insn_code
use Rattle.mt_insn.proofs.Sizes.{length-places_from, starts_near}
use Rattle.mt_attrs.specs.CodeParts.{attr_of, name_of, body_of}
use Rattle.mt_attrs.specs.Layout.{HasRowForm, HasTableForm, HasCodeForm, HasBodyForm, HasAttrForm}
use Rattle.mt_attrs.proofs.Starts.{takes, starts_ascend}
use Rattle.mutator_ops.specs.Mutants.{code_in, code_of}
use Rattle.class_writer.specs.Writing.{HasMemberForm, HasClassForm}
use Rattle.mutant_apply.specs.Moved.{moved_place, moved_row, moved_tables}
use Rattle.mutant_apply.specs.Entries.{◌>>=◌}
use Rattle.mutant_apply.specs.Edited.{mover, new_insns, edited_insns, code_with, is_laid_out, has_code_room, parts_of, edited_code, named_code, edited_parts, with_code, member_with, changed_at, class_with}
use Rattle.mutant_apply.specs.Fitting.{FitsInsn, FitsCode, Fits}
use Rattle.mutant_apply.specs.Laws.{EditKeepsForm}
use Rattle.mutant_apply.specs.declared.parts.Parts.{Parts}
use Rattle.mutant_apply.proofs.Lists.{all_map, all_at, changed_all}
use Rattle.mutant_apply.proofs.CodeForms.{first_was, when_true, IsNew, edited_new, edited_count}
use Rattle.mutant_apply.proofs.MovedTables.{row_moved, tables_moved}

-- ---- a code that has bytes is short

laid_case : (short fits : Bool) (bytes : List ℕ) (one other : LayoutFault) → is_laid_out (if short then (if fits then Ok bytes else Err one) else Err other) ≡ true → short ≡ true
laid_case true fits bytes one other e = refl
laid_case false fits bytes one other e = absurd cc

pub laid_short : (insns : List Insn) → is_laid_out (insn_code.layout insns) ≡ true → code_length insns < 2 ^ 16
laid_short insns e = ltb-true (code_length insns) (2 ^ 16) (laid_case (nat_lt (code_length insns) (2 ^ 16)) (jumps_fit (places insns) 0 insns) (insn_code.code insns) _ _ e)

few_from : (place : ℕ) (insns : List Insn) → place + length insns ≤ end_from place insns
few_from place [] = omega arith
few_from place (insn ∷ insns) = omega (arith, takes place insn, few_from (place + size_at place insn) insns)

pub few_insns : (insns : List Insn) → length insns ≤ code_length insns
few_insns insns = omega (arith, few_from 0 insns)

-- ---- the code

-- what an edit made of a code
pub record IsEdited (pool : List Const) (edit : Edit) (code : Code) (parts : Parts) : Type 0 where
  pub new : List Insn × List Const
  pub made : new_insns pool (mover edit) edit.with [] ≡ Some new
  pub stack : (out-Code code).max_stack + edit.more_stack < 2 ^ 16
  pub short : code_length (edited_insns edit new.0 (out-Code code).insns) < 2 ^ 16
  pub is : parts.code ≡ code_with edit code (edited_insns edit new.0 (out-Code code).insns)
  pub added : parts.added ≡ new.1

pub edited_is : (pool : List Const) (edit : Edit) (code : Code) (parts : Parts) → edited_code pool edit code ≡ Some parts → IsEdited pool edit code parts
edited_is pool edit code parts e =
    let a = first_was (new_insns pool (mover edit) edit.with []) (parts_of edit code) parts e in
    let insns = edited_insns edit a.0.0 (out-Code code).insns in
    let b = when_true (has_code_room edit code insns) (record { code = code_with edit code insns; added = a.0.1 }) parts a.2 in
    let k = and_parts (nat_lt ((out-Code code).max_stack + edit.more_stack) (2 ^ 16)) (is_laid_out (insn_code.layout insns)) b.0 in
    record {
      new = a.0;
      made = a.1;
      stack = ltb-true _ _ k.0;
      short = laid_short insns k.1;
      is = ap (λ (p : Parts). p.code) (sym b.1);
      added = ap (λ (p : Parts). p.added) (sym b.1);
    }

abbrev pub parts_with : Edit → Code-F Body Attr Code → List Insn → Code-F Body Attr Code
parts_with edit c insns = record c { max_stack = c.max_stack + edit.more_stack; insns = insns; rows = map (moved_row (mover edit)) c.rows; attrs = moved_tables (mover edit) (places insns) c.attrs }

module _ (pool : List Const) (edit : Edit) (c : Code-F Body Attr Code) (form : HasCodeForm c) (insn : Insn) (is : slice_get c.insns edit.at ≡ Some insn) (fits : FitsInsn pool edit.with (Some insn)) (new : List Insn × List Const) (made : new_insns pool (mover edit) edit.with [] ≡ Some new) where
  abbrev edited : List Insn
  edited = edited_insns edit new.0 c.insns

  more_insns : length edited ≡ length c.insns + (length edit.with - 1)
  more_insns = edited_count pool edit c.insns insn new is fits.0 made

  -- what is known of each of the instructions
  each_new : length c.insns + (length edit.with - 1) < 2 ^ 32 → AllByRecursion (IsNew (length edited)) edited
  each_new room = subst (λ (n : ℕ). AllByRecursion (IsNew n) edited) (sym more_insns) (edited_new pool edit c.insns insn new room is fits form.forms form.targets made)

  formed : (insns : List Insn) (n : ℕ) → AllByRecursion (IsNew n) insns → AllByRecursion HasForm insns
  formed [] n q = tt
  formed (i ∷ insns) n q = (q.0.form, formed insns n q.1)

  led : (insns : List Insn) (n : ℕ) → AllByRecursion (IsNew n) insns → AllByRecursion (HasTargets n) insns
  led [] n q = tt
  led (i ∷ insns) n q = (q.0.targets, led insns n q.1)

  pub forms_kept : length c.insns + (length edit.with - 1) < 2 ^ 32 → All HasForm edited
  forms_kept room = All-from_recursion HasForm edited (formed edited (length edited) (each_new room))

  pub targets_kept : length c.insns + (length edit.with - 1) < 2 ^ 32 → All (HasTargets (length edited)) edited
  targets_kept room = All-from_recursion (HasTargets (length edited)) edited (led edited (length edited) (each_new room))

  pub parts_form : code_length edited < 2 ^ 16 → HasCodeForm (parts_with edit c edited)
  parts_form short =
      let more = length edit.with - 1 in
      let starts = places c.insns in
      let moved = places edited in
      let count : length moved ≡ length edited = length-places_from 0 edited in
      let old_count : length starts ≡ length c.insns = length-places_from 0 c.insns in
      let few : length edited ≤ code_length edited = few_insns edited in
      let room : length c.insns + more < 2 ^ 32 = omega (arith, more_insns, few, short) in
      let longer : length moved ≡ length starts + more = omega (arith, count, old_count, more_insns) in
      let small : length moved < 2 ^ 32 = omega (arith, count, few, short) in
      let rise = starts_ascend c.insns starts refl in
      let moved_rise = starts_ascend edited moved refl in
      let near = starts_near edited moved refl short in
      record {
        forms = forms_kept room;
        targets = targets_kept room;
        rows = All-from_recursion (HasRowForm moved) (map (moved_row (mover edit)) c.rows)
            (all_map (HasRowForm starts) (HasRowForm moved) (moved_row (mover edit)) (row_moved edit.at more starts moved longer rise moved_rise near small) c.rows (recursion_from_All (HasRowForm starts) c.rows form.rows));
        attrs = All-from_recursion (λ attr. HasTableForm moved (body_of attr)) (moved_tables (mover edit) moved c.attrs)
            (tables_moved edit.at more starts moved longer rise moved_rise near small c.attrs (recursion_from_All (λ attr. HasTableForm starts (body_of attr)) c.attrs form.attrs));
      }

code_case : (pool : List Const) (edit : Edit) (code : Code) (parts : Parts) (o : Option Insn) → slice_get (out-Code code).insns edit.at ≡ o → HasCodeForm (out-Code code) → FitsInsn pool edit.with o → edited_code pool edit code ≡ Some parts → HasCodeForm (out-Code parts.code)
code_case pool edit code parts None is form fits e = absurd fits
code_case pool edit code parts (Some insn) is form fits e =
    let k = edited_is pool edit code parts e in
    let insns = edited_insns edit k.new.0 (out-Code code).insns in
    let kept : HasCodeForm (parts_with edit (out-Code code) insns) = parts_form pool edit (out-Code code) form insn is fits k.new k.made k.short in
    subst HasCodeForm (sym (ap out-Code k.is ∙ out-roll-Code (parts_with edit (out-Code code) insns))) kept

pub code_keeps : (pool : List Const) (edit : Edit) (code : Code) (parts : Parts) → HasCodeForm (out-Code code) → FitsCode pool edit (Some code) → edited_code pool edit code ≡ Some parts → HasCodeForm (out-Code parts.code)
code_keeps pool edit code parts form fits e = code_case pool edit code parts (slice_get (out-Code code).insns edit.at) refl form fits e

-- ---- attributes

-- the code of an attribute in its form is in its form
pub code_form : (b : Body-F Body Attr Code) (code : Code) → code_in b ≡ Some code → HasBodyForm b → HasCodeForm (out-Code code)
code_form (Body-F.Code c) code e form = let same : c ≡ code = cc in subst (λ (z : Code). HasCodeForm (out-Code z)) same form
code_form other code e form = absurd cc

code_of_case : (attr : Attr) (attrs : List Attr) (code : Code) (o : Option Code) → code_in (body_of attr) ≡ o → HasAttrForm attr → (code_of attrs ≡ Some code → HasCodeForm (out-Code code))
    → elim o [ Some code ↦ Some code | None ↦ code_of attrs ] ≡ Some code → HasCodeForm (out-Code code)
code_of_case attr attrs code None e form later is = later is
code_of_case attr attrs code (Some first) e form later is = code_form (body_of attr) code (e ∙ is) form

pub code_of_form : (attrs : List Attr) (code : Code) → AllByRecursion HasAttrForm attrs → code_of attrs ≡ Some code → HasCodeForm (out-Code code)
code_of_form [] code forms is = absurd cc
code_of_form (attr ∷ attrs) code forms is = code_of_case attr attrs code (code_in (body_of attr)) refl forms.0 (code_of_form attrs code forms.1) is

pub out_code : (name : ℕ) (code : Code) → body_of (attr_of name (body.Code code)) ≡ Body-F.Code code
out_code name code = search the_lemmas

attr_case : (new : Code) (attr : Attr) (attrs : List Attr) (o : Option Code) → HasCodeForm (out-Code new) → HasAttrForm attr → AllByRecursion HasAttrForm attrs → AllByRecursion HasAttrForm (with_code new attrs)
    → AllByRecursion HasAttrForm (elim o [ Some code ↦ attr_of (name_of attr) (body.Code new) ∷ attrs | None ↦ attr ∷ with_code new attrs ])
attr_case new attr attrs None kept form forms again = (form, again)
attr_case new attr attrs (Some code) kept form forms again = (subst HasBodyForm (sym (out_code (name_of attr) new)) kept, forms)

attrs_keep : (new : Code) (attrs : List Attr) → HasCodeForm (out-Code new) → AllByRecursion HasAttrForm attrs → AllByRecursion HasAttrForm (with_code new attrs)
attrs_keep new [] kept forms = tt
attrs_keep new (attr ∷ attrs) kept forms = attr_case new attr attrs (code_in (body_of attr)) kept forms.0 forms.1 (attrs_keep new attrs kept forms.1)

member_keeps : (new : Code) (member : Member) → HasCodeForm (out-Code new) → HasMemberForm member → HasMemberForm (member_with new member)
member_keeps new member kept form = All-from_recursion HasAttrForm _ (attrs_keep new member.attrs kept (recursion_from_All HasAttrForm member.attrs form))

-- ---- the class

-- the code that an edit names is in its form
member_case : (methods : List Member) (at : ℕ) (o : Option Member) (code : Code) → slice_get methods at ≡ o → AllByRecursion HasMemberForm methods → option_and_then (λ (m : Member). code_of m.attrs) o ≡ Some code → HasCodeForm (out-Code code)
member_case methods at None code is forms e = absurd cc
member_case methods at (Some member) code is forms e = code_of_form member.attrs code (recursion_from_All HasAttrForm member.attrs (all_at HasMemberForm methods at member forms is)) e

pub named_form : (class : Class) (edit : Edit) (code : Code) → HasClassForm class → named_code edit class ≡ Some code → HasCodeForm (out-Code code)
named_form class edit code form e = member_case class.methods edit.method (slice_get class.methods edit.method) code refl (recursion_from_All HasMemberForm class.methods form.methods) e

pub edit_keeps : EditKeepsForm
edit_keeps class edit parts form fits e =
    let a = first_was (named_code edit class) (edited_code class.pool edit) parts e in
    let kept = code_keeps class.pool edit a.0 parts (named_form class edit a.0 form a.1) (subst (FitsCode class.pool edit) a.1 fits) a.2 in
    let methods = recursion_from_All HasMemberForm class.methods form.methods in
    record {
      fields = form.fields;
      methods = All-from_recursion HasMemberForm _ (changed_all (member_with parts.code) HasMemberForm class.methods edit.method methods (λ member is. member_keeps parts.code member kept (all_at HasMemberForm class.methods edit.method member methods is)));
      attrs = form.attrs;
    }

-- ---- more instructions than a code can have

none_case : (edit : Edit) (code : Code) (new : List Insn × List Const) (b : Bool) → has_code_room edit code (edited_insns edit new.0 (out-Code code).insns) ≡ b → (b ≡ true → ⊥)
    → if◌then◌else◌ {A = Option Parts} b (Some (record { code = code_with edit code (edited_insns edit new.0 (out-Code code).insns); added = new.1 })) None ≡ None
none_case edit code new true e never = absurd (never refl)
none_case edit code new false e never = refl

many_case : (pool : List Const) (edit : Edit) (code : Code) (o : Option (List Insn × List Const)) → new_insns pool (mover edit) edit.with [] ≡ o → (insn : Insn) → slice_get (out-Code code).insns edit.at ≡ Some insn → edit.with ≢ []
    → 2 ^ 16 ≤ length (out-Code code).insns + (length edit.with - 1) → (o >>= parts_of edit code) ≡ None
many_case pool edit code None made insn is some many = refl
many_case pool edit code (Some new) made insn is some many =
    let insns = edited_insns edit new.0 (out-Code code).insns in
    none_case edit code new (has_code_room edit code insns) refl
    (λ e. let short = laid_short insns (and_parts (nat_lt ((out-Code code).max_stack + edit.more_stack) (2 ^ 16)) (is_laid_out (insn_code.layout insns)) e).1 in
    omega (arith, short, few_insns insns, edited_count pool edit (out-Code code).insns insn new is some made, many))

too_case : (pool : List Const) (edit : Edit) (code : Code) (o : Option Insn) → slice_get (out-Code code).insns edit.at ≡ o → FitsInsn pool edit.with o → 2 ^ 16 ≤ length (out-Code code).insns + (length edit.with - 1) → edited_code pool edit code ≡ None
too_case pool edit code None is fits many = absurd fits
too_case pool edit code (Some insn) is fits many = many_case pool edit code (new_insns pool (mover edit) edit.with []) refl insn is fits.0 many

pub too_many : (pool : List Const) (edit : Edit) (code : Code) → FitsInsn pool edit.with (slice_get (out-Code code).insns edit.at) → 2 ^ 16 ≤ length (out-Code code).insns + (length edit.with - 1) → edited_code pool edit code ≡ None
too_many pool edit code fits many = too_case pool edit code (slice_get (out-Code code).insns edit.at) refl fits many

-- an edit that fits names an instruction and puts some in its place
fitting_case : (pool : List Const) (with : List NewInsn) (insns : List Insn) (at : ℕ) (o : Option Insn) → slice_get insns at ≡ o → FitsInsn pool with o → (insn : Insn) × (slice_get insns at ≡ Some insn) × FitsInsn pool with (Some insn)
fitting_case pool with insns at None is fits = absurd fits
fitting_case pool with insns at (Some insn) is fits = (insn, is, fits)

pub fitting : (pool : List Const) (with : List NewInsn) (insns : List Insn) (at : ℕ) → FitsInsn pool with (slice_get insns at) → (insn : Insn) × (slice_get insns at ≡ Some insn) × FitsInsn pool with (Some insn)
fitting pool with insns at fits = fitting_case pool with insns at (slice_get insns at) refl fits
