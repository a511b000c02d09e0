-- Writing values one after the other, as a loop does: what its answers cite. The loop keeps that
-- what it has written, and behind it what it is still to write, is the whole, and that no bound was
-- passed so far.
use Rattle.std.proofs.Common.{◌≡◌, ◌≢◌, ℕ, suc, ◌+◌, ◌-◌, ◌^◌, ◌≤◌, ◌<◌, Bool, true, false, cond, ltb, List, [], ◌∷◌, ◌++◌, length, drop, get_or, Option, Some, None, Result, Ok, Err, refl, sym, ap, subst, ◌∙◌, append_assoc, arith, drop-cons}
use Rattle.std.specs.List.{flat_map}
use Rattle.std.specs.Option.{option_map}
use Rattle.std.proofs.lemmas.List.{append-nil}
use Rattle.std.proofs.Math.ListN.{drop_of_length-le}
use Rattle.std.proofs.lemmas.List.Concat.{flat_map-cons}
use Rattle.class_model.specs.declared.fault.Bound.{Bound}
use Rattle.class_model.specs.declared.fault.LayoutFault.{LayoutFault}
use Rattle.class_model.specs.declared.fault.LayoutFault.TheVariants as layout_fault
use Rattle.class_model.specs.declared.instruction.Insn.{Insn}
use Rattle.class_model.specs.declared.fault.Bound.TheVariants as bound
use Rattle.std.proofs.lemmas.Bool.{ltb-true}
use Rattle.mt_insn.specs.Code.{code, code_length, layout}
use Rattle.mt_insn.proofs.LayoutLaws.{read_length}
use Rattle.mt_attrs.specs.Layout.{or_bound, first_of, Writes}

-- the value at a loop's place, and those behind it
pub cut_at : {A : Type 0} (xs : List A) (i : ℕ) (x : A) → i < length xs → x ≡ get_or xs i x → drop i xs ≡ x ∷ drop (i + 1) xs
cut_at {A} xs i x lt is =
    let next : suc i ≡ i + 1 = omega arith in
    drop-cons xs i x lt ∙ ap (λ (y : A). y ∷ drop (suc i) xs) (sym is) ∙ ap (λ (n : ℕ). x ∷ drop n xs) next

-- so much was written, and no bound was passed
abbrev pub Written : {A : Type 0} → (A → List ℕ) → (A → Option Bound) → List A → ℕ → List ℕ → List ℕ → Type 0
Written bytes passed xs i old out = (out ++ flat_map bytes (drop i xs) ≡ old ++ flat_map bytes xs) × (first_of passed (drop i xs) ≡ first_of passed xs)

-- one more value was written
pub goes_write : {A : Type 0} (bytes : A → List ℕ) (passed : A → Option Bound) (xs : List A) (i : ℕ) (x : A) (old out new : List ℕ) → i < length xs → x ≡ get_or xs i x → (passed x ≡ None) × (new ≡ out ++ bytes x) → Written bytes passed xs i old out → Written bytes passed xs (i + 1) old new
goes_write bytes passed xs i x old out new lt is h so_far =
    let cut = cut_at xs i x lt is in
    let one : new ++ flat_map bytes (drop (i + 1) xs) ≡ out ++ flat_map bytes (drop i xs) = ap (λ (z : List ℕ). z ++ flat_map bytes (drop (i + 1) xs)) h.1 ∙ append_assoc out (bytes x) (flat_map bytes (drop (i + 1) xs)) ∙ ap (λ (z : List ℕ). out ++ z) (sym (flat_map-cons bytes x (drop (i + 1) xs)) ∙ ap (flat_map bytes) (sym cut)) in
    let two : first_of passed (drop (i + 1) xs) ≡ first_of passed (drop i xs) = ap (λ (o : Option Bound). or_bound o (first_of passed (drop (i + 1) xs))) (sym h.0) ∙ ap (first_of passed) (sym cut) in
    (one ∙ so_far.0, two ∙ so_far.1)

-- a bound that is passed is the first of all
first_passed : (o other : Option Bound) (e : LayoutFault) → option_map layout_fault.TooLarge o ≡ Some e → option_map layout_fault.TooLarge (or_bound o other) ≡ Some e
first_passed None other e h = absurd cc
first_passed (Some b) other e h = h

-- a value has no room
pub ends_write : {A : Type 0} (bytes : A → List ℕ) (passed : A → Option Bound) (xs : List A) (i : ℕ) (x : A) (old out : List ℕ) (e : LayoutFault) → i < length xs → x ≡ get_or xs i x → (e ≢ layout_fault.Memory → option_map layout_fault.TooLarge (passed x) ≡ Some e) → Written bytes passed xs i old out
    → e ≢ layout_fault.Memory → option_map layout_fault.TooLarge (first_of passed xs) ≡ Some e
ends_write bytes passed xs i x old out e lt is h so_far = λ known.
    let cut = cut_at xs i x lt is in
    ap (λ (o : Option Bound). option_map layout_fault.TooLarge o) (sym so_far.1 ∙ ap (first_of passed) cut) ∙ first_passed (passed x) (first_of passed (drop (i + 1) xs)) e (h known)

-- all were written
pub is_written : {A : Type 0} (bytes : A → List ℕ) (passed : A → Option Bound) (xs : List A) (i : ℕ) (old out : List ℕ) → length xs ≤ i → Written bytes passed xs i old out → (first_of passed xs ≡ None) × (out ≡ old ++ flat_map bytes xs)
is_written bytes passed xs i old out le so_far =
    let none : drop i xs ≡ [] = drop_of_length-le xs le in
    (sym so_far.1 ∙ ap (first_of passed) none, sym (append-nil out) ∙ ap (λ z. out ++ flat_map bytes z) (sym none) ∙ so_far.0)

-- what was written before, in front
pub Writes-behind : (passed : Option Bound) (front back : List ℕ) (old middle new : List ℕ) (result : Result Unit LayoutFault) → middle ≡ old ++ front → Writes passed back middle new result → Writes passed (front ++ back) old new result
Writes-behind passed front back old middle new (Ok value) same h = (h.0, h.1 ∙ ap (λ (z : List ℕ). z ++ back) same ∙ append_assoc old front back)
Writes-behind passed front back old middle new (Err e) same h = h

-- ---- a code that has room

fits_by : (insns : List Insn) (bytes : List ℕ) (short jumps : Bool) → ltb (code_length insns) (2 ^ 16) ≡ short → cond short (cond jumps (Ok (code insns)) (Err (layout_fault.TooLarge bound.Jump))) (Err (layout_fault.TooLarge bound.Code)) ≡ Ok bytes → code_length insns < 2 ^ 16
fits_by insns bytes true jumps t e = ltb-true _ _ t
fits_by insns bytes false jumps t e = absurd cc

pub code_fits : (insns : List Insn) (bytes : List ℕ) → layout insns ≡ Ok bytes → code_length insns < 2 ^ 16
code_fits insns bytes e = fits_by insns bytes _ _ refl e

pub end_fits : (insns : List Insn) (empty bytes : List ℕ) → empty ≡ [] → bytes ≡ empty ++ code insns → layout insns ≡ Ok (code insns) → length bytes < 2 ^ 16
end_fits insns empty bytes none same e =
    let len : length bytes ≡ length (code insns) = ap (λ (z : List ℕ). length z) (same ∙ ap (λ (z : List ℕ). z ++ code insns) none) in
    omega (arith, len, read_length insns (code insns) refl, code_fits insns (code insns) e)
