-- The instructions of an edited code have their forms, and lead to instructions of it.
use Rattle.std.proofs.Common.{◌≡◌, ℕ, zero, suc, ◌+◌, ◌-◌, ◌^◌, ◌≤◌, ◌<◌, Bool, true, false, List, [], ◌∷◌, ◌++◌, length, map, take, drop, Option, Some, None, refl, sym, ap, subst, ◌∙◌, inl, inr, arith, append_assoc}
use Rattle.std.specs.Prelude.{ℤ, pos, negsuc, FitsSigned, All, ◌≢◌, ◌⊎◌, ◌&&◌, nat_lt, not, slice_get, option_and_then, if◌then◌else◌}
use Rattle.std.specs.Int.{w8, w16}
use Rattle.std.specs.Int.RustNames.{int_le}
use Rattle.std.specs.List.{AllByRecursion, position_from}
use Rattle.std.proofs.lemmas.Bool.{ltb-true, ltb-false, and_parts}
use Rattle.std.proofs.lemmas.Int.{ints}
use Rattle.std.proofs.lemmas.List.{length-append, length-map, length-take, length-drop}
use Rattle.std.proofs.lemmas.List.Elements.{All-from_recursion, recursion_from_All}
use Rattle.class_model.specs.declared.constant.Const.{Const}
use Rattle.class_model.specs.declared.constant.Const.TheVariants as const
use Rattle.class_model.specs.declared.edit.Edit.{Edit}
use Rattle.class_model.specs.declared.edit.NewInsn.{NewInsn}
use Rattle.class_model.specs.declared.edit.NewInsn.TheVariants.{Plain, Inc, EmptyText, Call}
use Rattle.class_model.specs.declared.instruction.Insn.{Insn}
use Rattle.class_model.specs.declared.instruction.Arg.TheVariants as arg
use Rattle.mt_insn.specs.Opcode.{form_of}
use Rattle.mt_insn.specs.Code.{HasForm, HasTargets, IsFormedArg, targets_in, is_short}
use Rattle.mutant_apply.specs.Moved.{moved_place, moved_insn}
use Rattle.mutant_apply.specs.Entries.{◌>>=◌, is_entry, within, found_or_added, index_of, empty_string, method_of}
use Rattle.mutant_apply.specs.Edited.{mover, is_narrow, increment, of_entry, new_insn, new_insns, edited_insns}
use Rattle.mutant_apply.specs.Fitting.{StandsFor, CanReplace, FitsInsn}
use Rattle.mutant_apply.proofs.Lists.{all_map, all_append, all_take, all_drop, all_at}
use Rattle.mutant_apply.proofs.EntryLaws.{found_within}
use Rattle.mutant_apply.proofs.MovedInsns.{form_moved, targets_moved, moved_leads, moved_below}

-- ---- steps that may have no room

pub first_was : {A B : Type 0} (o : Option A) (next : A → Option B) (y : B) → (o >>= next) ≡ Some y → (x : A) × (o ≡ Some x) × (next x ≡ Some y)
first_was None next y e = absurd cc
first_was (Some x) next y e = (x, refl, e)

pub when_true : {A : Type 0} (b : Bool) (x y : A) → (if b then Some x else None) ≡ Some y → (b ≡ true) × (x ≡ y)
when_true true x y e = (refl, cc)
when_true false x y e = absurd cc

-- ---- indices of entries

found_case : (pool : List Const) (entry : Const) (added : List Const) (o : Option ℕ) → position_from (is_entry entry) 1 (pool ++ added) ≡ o → (x : ℕ × List Const) → within pool (found_or_added pool entry added o) ≡ Some x → x.0 < 2 ^ 16
found_case pool entry added (Some index) at x e =
    let k = when_true (nat_lt (length pool + length added + 1) (2 ^ 16)) (index, added) x e in
    let same : index ≡ x.0 = ap (λ (x : ℕ × List Const). x.0) k.1 in
    omega (arith, same, found_within (is_entry entry) 1 (pool ++ added) index at, length-append pool added, ltb-true _ _ k.0)
found_case pool entry added None at x e =
    let more = added ++ entry ∷ [] in
    let k = when_true (nat_lt (length pool + length more + 1) (2 ^ 16)) (length pool + length added + 1, more) x e in
    let same : length pool + length added + 1 ≡ x.0 = ap (λ (x : ℕ × List Const). x.0) k.1 in
    omega (arith, same, length-append added (entry ∷ []), ltb-true _ _ k.0)

-- an index has two bytes
pub index_short : (pool : List Const) (entry : Const) (added : List Const) (x : ℕ × List Const) → index_of pool entry added ≡ Some x → x.0 < 2 ^ 16
index_short pool entry added x e = found_case pool entry added (position_from (is_entry entry) 1 (pool ++ added)) refl x e

pub string_short : (pool added : List Const) (x : ℕ × List Const) → empty_string pool added ≡ Some x → x.0 < 2 ^ 16
string_short pool added x e =
    let units = first_was (index_of pool (const.Utf8 []) added) (λ units. index_of pool (const.Text units.0) units.1) x e in
    index_short pool (const.Text units.0.0) units.0.1 x units.2

pub method_short : (pool : List Const) (class name desc : List ℕ) (added : List Const) (x : ℕ × List Const) → method_of pool class name desc added ≡ Some x → x.0 < 2 ^ 16
method_short pool class name desc added x e =
    let a = first_was (index_of pool (const.Utf8 class) added) _ x e in
    let b = first_was (index_of pool (const.Class a.0.0) a.0.1) _ x a.2 in
    let c = first_was (index_of pool (const.Utf8 name) b.0.1) _ x b.2 in
    let d = first_was (index_of pool (const.Utf8 desc) c.0.1) _ x c.2 in
    let p = first_was (index_of pool (const.Pair c.0.0 d.0.0) d.0.1) _ x d.2 in
    index_short pool (const.Method b.0.0 p.0.0) p.0.1 x p.2

-- ---- new instructions

byte_fits : (z : ℤ) → int_le (negsuc 127) z && int_le z (pos 127) ≡ true → FitsSigned w8 z
byte_fits (pos n) e = record { sfits = grind (arith, ints) }
byte_fits (negsuc n) e = record { sfits = grind (arith, ints) }

short_fits : (z : ℤ) → is_short z ≡ true → FitsSigned w16 z
short_fits (pos n) e = record { sfits = grind (arith, ints) }
short_fits (negsuc n) e = record { sfits = grind (arith, ints) }

increment_case : (local : ℕ) (by : ℤ) (narrow : Bool) → is_narrow local by ≡ narrow → local < 2 ^ 16 → is_short by ≡ true → IsFormedArg (form_of 0x84) (not narrow) (arg.Inc local by)
increment_case local by true e near short = let k = and_parts (nat_lt local (2 ^ 8)) (int_le (negsuc 127) by && int_le by (pos 127)) e in (refl, ltb-true _ _ k.0, byte_fits by k.1)
increment_case local by false e near short = (refl, near, short_fits by short)

increment_form : (local : ℕ) (by : ℤ) → local < 2 ^ 16 → is_short by ≡ true → HasForm (increment local by)
increment_form local by near short = (omega arith, increment_case local by (is_narrow local by) refl near short)

-- what is known of an instruction of an edited code that has so many
pub record IsNew (all : ℕ) (insn : Insn) : Type 0 where
  pub form : HasForm insn
  pub targets : HasTargets all insn

-- a new instruction in the place of an old one that leads to instructions of a code of so many
module _ (at more count : ℕ) (room : count + more < 2 ^ 32) where
  led : (old new : Insn) → HasTargets count old → (targets_in new.arg ≡ []) ⊎ (targets_in new.arg ≡ targets_in old.arg) → HasTargets count new
  led old new q (inl none) = subst (AllByRecursion (λ n. (n < count) × (n < 2 ^ 32))) (sym none) tt
  led old new q (inr same) = subst (AllByRecursion (λ n. (n < count) × (n < 2 ^ 32))) (sym same) q

  entry_new : (op : ℕ) (index : ℕ) → HasForm (record { op = op; wide = false; arg = arg.Pool index }) → IsNew (count + more) (record { op = op; wide = false; arg = arg.Pool index })
  entry_new op index q = record { form = q; targets = tt }

  insn_new : (pool : List Const) (old : Insn) → HasTargets count old → (new : NewInsn) (added : List Const) (x : Insn × List Const) → CanReplace pool old new → new_insn pool (moved_place at more) new added ≡ Some x → IsNew (count + more) x.0
  insn_new pool old there (Plain insn) added x q e =
      let same : moved_insn (moved_place at more) insn ≡ x.0 = ap (λ (x : Insn × List Const). x.0) (let s : (moved_insn (moved_place at more) insn, added) ≡ x = cc in s) in
      subst (IsNew (count + more)) same (record { form = form_moved (moved_place at more) insn q.form; targets = targets_moved at more count insn room (led old insn there q.leads) })
  insn_new pool old there (Inc local by) added x q e =
      let k = when_true (is_short by) (increment local by, added) x e in
      let same : increment local by ≡ x.0 = ap (λ (x : Insn × List Const). x.0) k.1 in
      subst (IsNew (count + more)) same (record { form = increment_form local by q k.0; targets = tt })
  insn_new pool old there EmptyText added x q e =
      let k = first_was (empty_string pool added) (of_entry 0x13) x e in
      let same : record { op = 0x13; wide = false; arg = arg.Pool k.0.0 } ≡ x.0 = ap (λ (x : Insn × List Const). x.0) (let s : (record { op = 0x13; wide = false; arg = arg.Pool k.0.0 }, k.0.1) ≡ x = cc in s) in
      subst (IsNew (count + more)) same (entry_new 0x13 k.0.0 (omega arith, (refl, string_short pool added k.0 k.1)))
  insn_new pool old there (Call class name desc) added x q e =
      let k = first_was (method_of pool class name desc added) (of_entry 0xb8) x e in
      let same : record { op = 0xb8; wide = false; arg = arg.Pool k.0.0 } ≡ x.0 = ap (λ (x : Insn × List Const). x.0) (let s : (record { op = 0xb8; wide = false; arg = arg.Pool k.0.0 }, k.0.1) ≡ x = cc in s) in
      subst (IsNew (count + more)) same (entry_new 0xb8 k.0.0 (omega arith, (refl, method_short pool class name desc added k.0 k.1)))

  pub insns_new : (pool : List Const) (old : Insn) → HasTargets count old → (with : List NewInsn) (added : List Const) (x : List Insn × List Const) → AllByRecursion (CanReplace pool old) with → new_insns pool (moved_place at more) with added ≡ Some x → AllByRecursion (IsNew (count + more)) x.0
  insns_new pool old there [] added x q e = let same : [] ≡ x.0 = ap (λ (x : List Insn × List Const). x.0) (let s : ([], added) ≡ x = cc in s) in subst (AllByRecursion (IsNew (count + more))) same tt
  insns_new pool old there (new ∷ with) added x q e =
      let a = first_was (new_insn pool (moved_place at more) new added) _ x e in
      let b = first_was (new_insns pool (moved_place at more) with a.0.1) _ x a.2 in
      let same : a.0.0 ∷ b.0.0 ≡ x.0 = ap (λ (x : List Insn × List Const). x.0) (let s : (a.0.0 ∷ b.0.0, b.0.1) ≡ x = cc in s) in
      subst (AllByRecursion (IsNew (count + more))) same (insn_new pool old there new added a.0 q.0 a.1, insns_new pool old there with a.0.1 b.0 q.1 b.1)

-- as many as the edit says
pub new_length : (pool : List Const) (mv : ℕ → ℕ) (with : List NewInsn) (added : List Const) (x : List Insn × List Const) → new_insns pool mv with added ≡ Some x → length x.0 ≡ length with
new_length pool mv [] added x e = let same : [] ≡ x.0 = ap (λ (x : List Insn × List Const). x.0) (let s : ([], added) ≡ x = cc in s) in ap (λ (xs : List Insn). length xs) (sym same)
new_length pool mv (new ∷ with) added x e =
    let a = first_was (new_insn pool mv new added) _ x e in
    let b = first_was (new_insns pool mv with a.0.1) _ x a.2 in
    let same : a.0.0 ∷ b.0.0 ≡ x.0 = ap (λ (x : List Insn × List Const). x.0) (let s : (a.0.0 ∷ b.0.0, b.0.1) ≡ x = cc in s) in
    ap (λ (xs : List Insn). length xs) (sym same) ∙ ap suc (new_length pool mv with a.0.1 b.0 b.1)

-- ---- the whole list

pub there_is : {X : Type 0} (xs : List X) (at : ℕ) (x : X) → slice_get xs at ≡ Some x → at < length xs
there_is [] at x e = absurd cc
there_is (y ∷ xs) zero x e = omega arith
there_is (y ∷ xs) (suc at) x e = omega (arith, there_is xs at x e)

pub edited_length : (mv : ℕ → ℕ) (at : ℕ) (old new : List Insn) → at < length old → length (map (moved_insn mv) (take at old) ++ new ++ map (moved_insn mv) (drop (at + 1) old)) + 1 ≡ length old + length new
edited_length mv at old new lt =
    let front = map (moved_insn mv) (take at old) in
    let back = map (moved_insn mv) (drop (at + 1) old) in
    omega (arith, length-append (front ++ new) back, length-append front new, length-map (take at old) (moved_insn mv), length-map (drop (at + 1) old) (moved_insn mv), length-take at old, length-drop (at + 1) old)

pub with_some : (with : List NewInsn) → with ≢ [] → 0 < length with
with_some [] some = absurd (some refl)
with_some (new ∷ with) some = omega arith

-- how many instructions an edited code has
pub edited_count : (pool : List Const) (edit : Edit) (old : List Insn) (insn : Insn) (x : List Insn × List Const) → slice_get old edit.at ≡ Some insn → edit.with ≢ [] → new_insns pool (mover edit) edit.with [] ≡ Some x
    → length (edited_insns edit x.0 old) ≡ length old + (length edit.with - 1)
edited_count pool edit old insn x is some made =
    omega (arith, edited_length (mover edit) edit.at old x.0 (there_is old edit.at insn is), new_length pool (mover edit) edit.with [] x made, with_some edit.with some)

-- the instructions of an edited code
pub edited_new : (pool : List Const) (edit : Edit) (old : List Insn) (insn : Insn) (x : List Insn × List Const) → length old + (length edit.with - 1) < 2 ^ 32 → slice_get old edit.at ≡ Some insn → FitsInsn pool edit.with (Some insn)
    → All HasForm old → All (HasTargets (length old)) old → new_insns pool (mover edit) edit.with [] ≡ Some x
    → AllByRecursion (IsNew (length old + (length edit.with - 1))) (edited_insns edit x.0 old)
edited_new pool edit old insn x room is fits forms targets made =
    let more = length edit.with - 1 in
    let all = length old + more in
    let mv = moved_place edit.at more in
    let both : AllByRecursion (IsNew (length old)) old = both_by (length old) old (recursion_from_All HasForm old forms) (recursion_from_All (HasTargets (length old)) old targets) in
    let move : (insn : Insn) → IsNew (length old) insn → IsNew all (moved_insn mv insn) = λ insn k. record { form = form_moved mv insn k.form; targets = targets_moved edit.at more (length old) insn room k.targets } in
    let here : IsNew (length old) insn = all_at (IsNew (length old)) old edit.at insn both is in
    let front = all_map (IsNew (length old)) (IsNew all) (moved_insn mv) move (take edit.at old) (all_take (IsNew (length old)) edit.at old both) in
    let back = all_map (IsNew (length old)) (IsNew all) (moved_insn mv) move (drop (edit.at + 1) old) (all_drop (IsNew (length old)) (edit.at + 1) old both) in
    let new = insns_new edit.at more (length old) room pool insn here.targets edit.with [] x fits.1 made in
    all_append (IsNew all) (map (moved_insn mv) (take edit.at old) ++ x.0) (map (moved_insn mv) (drop (edit.at + 1) old)) (all_append (IsNew all) (map (moved_insn mv) (take edit.at old)) x.0 front new) back
  where
    both_by : (count : ℕ) (insns : List Insn) → AllByRecursion HasForm insns → AllByRecursion (HasTargets count) insns → AllByRecursion (IsNew count) insns
    both_by count [] f t = tt
    both_by count (insn ∷ insns) f t = (record { form = f.0; targets = t.0 }, both_by count insns f.1 t.1)
