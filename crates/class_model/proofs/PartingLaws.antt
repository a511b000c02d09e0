-- A name that is parted at a unit is what stands before, the unit, and what stands behind.
use Rattle.std.proofs.Common.{◌≡◌, ℕ, ◌+◌, ◌<◌, Bool, true, false, eqb, List, [], ◌∷◌, ◌++◌, length, take, drop, slice_index_or, Some, None, refl, sym, ap, subst, ◌∙◌, arith, length-append}
use Rattle.std.specs.Prelude.{nat_lt}
use Rattle.std.specs.List.{All, slice_split, position_or_len, before_first, after_first}
use Rattle.std.proofs.lemmas.Grind.{common_steps}
use Rattle.std.proofs.lemmas.Bool.{ltb-true, ltb-false, lt-ltb, eqb-true, eq-eqb}
use Rattle.std.proofs.lemmas.List.Sums.{split_at_first, fails_before_first, passes_at_first, position_or_len_is}
use Rattle.std.proofs.lemmas.List.Splits.{slice_split_none, slice_split_at}
use Rattle.std.proofs.Math.Seq.{drop-append-add}
use Rattle.class_model.specs.Parting.{parted_at}

abbrev is : ℕ → ℕ → Bool
is unit other = eqb other unit

-- what parting found
pub record Parted (unit : ℕ) (units before behind : List ℕ) : Type 0 where
  pub whole : units ≡ before ++ unit ∷ behind
  pub free : All (λ other. eqb other unit ≡ false) before

free_before : (unit : ℕ) (units : List ℕ) → All (λ other. eqb other unit ≡ false) (before_first (is unit) units)
free_before unit units = λ k d lt. let fails = fails_before_first (is unit) units k d (grind (arith, common_steps)) in grind (arith, common_steps)

found : (unit : ℕ) (units : List ℕ) → position_or_len (is unit) units < length units → Parted unit units (before_first (is unit) units) (after_first (is unit) units)
found unit units lt =
    let same = eqb-true _ unit (passes_at_first (is unit) units 0 lt) in
    record {
      whole = split_at_first (is unit) units 0 lt ∙ ap (λ u. before_first (is unit) units ++ (u ∷ after_first (is unit) units)) same;
      free = free_before unit units;
    }

some_is : (x y : List ℕ × List ℕ) → Some x ≡ Some y → x ≡ y
some_is x y e = cc

parted_by : (unit : ℕ) (units before behind : List ℕ) (b : Bool) → nat_lt (position_or_len (is unit) units) (length units) ≡ b
    → parted_at unit units ≡ Some (before, behind) → Parted unit units before behind
parted_by unit units before behind true test e =
    let some : parted_at unit units ≡ Some (before_first (is unit) units, after_first (is unit) units) = rw test refl in
    let same = some_is (before_first (is unit) units, after_first (is unit) units) (before, behind) (sym some ∙ e) in
    subst (λ (x : List ℕ × List ℕ). Parted unit units x.0 x.1) same (found unit units (ltb-true _ _ test))
parted_by unit units before behind false test e = let none : parted_at unit units ≡ None = rw test refl in absurd cc

pub parted : (unit : ℕ) (units before behind : List ℕ) → parted_at unit units ≡ Some (before, behind) → Parted unit units before behind
parted unit units before behind e = parted_by unit units before behind _ refl e

-- where the unit stands nowhere
all_free : (unit : ℕ) (units : List ℕ) (b : Bool) → nat_lt (position_or_len (is unit) units) (length units) ≡ b → parted_at unit units ≡ None → All (λ other. eqb other unit ≡ false) units
all_free unit units true test e = let some : parted_at unit units ≡ Some (before_first (is unit) units, after_first (is unit) units) = rw test refl in absurd cc
all_free unit units false test e = λ k d lt. let le = ltb-false _ _ test in fails_before_first (is unit) units k d (omega (arith, lt, le))

-- ---- the parts of a name

pub parts_go_on : (unit : ℕ) (units before behind : List ℕ) → parted_at unit units ≡ Some (before, behind) → slice_split (is unit) units ≡ before ∷ slice_split (is unit) behind
parts_go_on unit units before behind e =
    let p = parted unit units before behind e in
    ap (slice_split (is unit)) p.whole ∙ slice_split_at (is unit) before unit behind p.free (eq-eqb unit unit refl)

pub parts_end : (unit : ℕ) (units : List ℕ) → parted_at unit units ≡ None → slice_split (is unit) units ≡ units ∷ []
parts_end unit units e = slice_split_none (is unit) units (all_free unit units _ refl e)

-- ---- parting again what was put together

after_front : (unit : ℕ) (before behind : List ℕ) (k d : ℕ) → k < length before → All (λ other. eqb other unit ≡ false) before → is unit (slice_index_or (before ++ unit ∷ behind) k d) ≡ false
after_front unit before behind k d lt free = let f = free k d lt in grind (arith, common_steps)

at_unit : (unit : ℕ) (before behind : List ℕ) (d : ℕ) → is unit (slice_index_or (before ++ unit ∷ behind) (length before) d) ≡ true
at_unit unit before behind d = let e = eq-eqb unit unit refl in grind (arith, common_steps)

place_again : (unit : ℕ) (before behind : List ℕ) → All (λ other. eqb other unit ≡ false) before → position_or_len (is unit) (before ++ unit ∷ behind) ≡ length before
place_again unit before behind free =
    let sum = length-append before (unit ∷ behind) in
    position_or_len_is (is unit) (before ++ unit ∷ behind) (length before) 0 (omega (arith, sum)) (λ k lt. after_front unit before behind k 0 lt free) (λ lt. at_unit unit before behind 0)

pub parted_again : (unit : ℕ) (before behind : List ℕ) → All (λ other. eqb other unit ≡ false) before → parted_at unit (before ++ unit ∷ behind) ≡ Some (before, behind)
parted_again unit before behind free =
    let sum = length-append before (unit ∷ behind) in
    let here : length before < length (before ++ unit ∷ behind) = omega (arith, sum) in
    let front : take (length before) (before ++ unit ∷ behind) ≡ before = grind (arith, common_steps) in
    let back : drop (length before + 1) (before ++ unit ∷ behind) ≡ behind = drop-append-add before (unit ∷ behind) 1 in
    rw (place_again unit before behind free, lt-ltb _ _ here, front, back) refl
