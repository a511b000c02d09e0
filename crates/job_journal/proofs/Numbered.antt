-- Classes by their bytes, with a class more.
use Rattle.std.proofs.Common.{◌≡◌, ◌∙◌, ℕ, suc, ◌-◌, ◌<◌, ◌≤◌, ◌^◌, Bool, true, false, List, [], ◌∷◌, ◌++◌, length, Option, Some, None, is_some, refl, sym, ap, subst, length-append, arith}
use Rattle.std.specs.Prelude.{◌||◌, if◌then◌else◌}
use Rattle.std.specs.BTreeMap as tree
use Rattle.std.specs.BTreeMap.{BTreeMap}
use Rattle.std.specs.Global.{Vec}
use Rattle.std.specs.Cmp.Lexicographic.{slice_cmp}
use Rattle.std.specs.Ordering.{nat_cmp, is_eq}
use Rattle.std.specs.Map.{KeepsOthers}
use Rattle.std.proofs.lemmas.Cmp.{eq_by_cmp_equiv, nat_list_cmp_total, nat_list_eq_equiv}
use Rattle.std.proofs.lemmas.Map.Text.{is_eq-slice_cmp}
use Rattle.program_rules.specs.Names.{same, is_listed}
use Rattle.history_rules.specs.Classes.{place_of, number_of}
use Rattle.history_rules.proofs.Pools.{bytes_are}
use Rattle.job_journal.specs.Adding.{first_number}
use Rattle.job_journal.specs.Numbers.{kept_at, AreNumbers}

-- ---- what is kept of some bytes

apart : (bs cs ks : List ℕ) → same bs cs ≡ false → is_eq (slice_cmp nat_cmp bs ks) ≡ true → is_eq (slice_cmp nat_cmp cs ks) ≡ false
apart bs cs ks n y =
    is_eq-slice_cmp cs ks ∙ nat_list_eq_equiv.symm cs ks ∙ sym (nat_list_eq_equiv.congr bs ks cs (sym (is_eq-slice_cmp bs ks) ∙ y)) ∙ n

others_stay : {X : Type 0} (key : Vec ℕ) (v : X) (m n : BTreeMap (Vec ℕ) X) → tree.UpdatesBy (λ x y. slice_cmp nat_cmp x.items y.items) (λ k. slice_cmp nat_cmp key.items k.items) m n (Some v) → (q : List ℕ) → same key.items q ≡ false → kept_at n q ≡ kept_at m q
unfolding KeepsOthers
others_stay key v m n u q e = u.3 (λ (k : Vec ℕ). is_eq (slice_cmp nat_cmp q k.items)) (λ x y. (eq_by_cmp_equiv nat_list_cmp_total).congr q x.items y.items) (λ k. apart key.items q k.items e)

-- what an insertion leaves
pub set_key : {X : Type 0} (key : Vec ℕ) (v : X) (m n : BTreeMap (Vec ℕ) X) → tree.UpdatesBy (λ x y. slice_cmp nat_cmp x.items y.items) (λ k. slice_cmp nat_cmp key.items k.items) m n (Some v) → (q : List ℕ) → kept_at n q ≡ (if same key.items q then Some v else kept_at m q)
set_key {X} key v m n u q = by (same key.items q) refl
  where
    by : (b : Bool) → same key.items q ≡ b → kept_at n q ≡ (if b then Some v else kept_at m q)
    by true e = subst (λ (z : List ℕ). kept_at n z ≡ Some v) (bytes_are key.items q e) u.1
    by false e = others_stay key v m n u q e

-- ---- a class more

or_false : (a b : Bool) → a || b ≡ false → (a ≡ false) × (b ≡ false)
or_false true b e = absurd cc
or_false false b e = (refl, e)

place_front : (xs ys : List (List ℕ)) (q : List ℕ) → is_listed q xs ≡ true → place_of (xs ++ ys) q ≡ place_of xs q
place_front [] ys q e = absurd cc
place_front (x ∷ xs) ys q e = by (same x q) (place_front xs ys q) e
  where
    by : (b : Bool) → (is_listed q xs ≡ true → place_of (xs ++ ys) q ≡ place_of xs q) → b || is_listed q xs ≡ true → (if b then 0 else suc (place_of (xs ++ ys) q)) ≡ (if b then 0 else suc (place_of xs q))
    by true h e = refl
    by false h e = ap suc (h e)

place_last : (xs : List (List ℕ)) (c q : List ℕ) → is_listed q xs ≡ false → same c q ≡ true → place_of (xs ++ c ∷ []) q ≡ length xs
place_last [] c q e f = by (same c q) f
  where
    by : (b : Bool) → b ≡ true → (if b then 0 else suc (place_of [] q)) ≡ 0
    by true e = refl
    by false e = absurd cc
place_last (x ∷ xs) c q e f =
    let o = or_false (same x q) (is_listed q xs) e in
    by (same x q) o.0 (place_last xs c q o.1 f)
  where
    by : (b : Bool) → b ≡ false → place_of (xs ++ c ∷ []) q ≡ length xs → (if b then 0 else suc (place_of (xs ++ c ∷ []) q)) ≡ suc (length xs)
    by true e h = absurd cc
    by false e h = ap suc h

listed_more : (xs : List (List ℕ)) (c q : List ℕ) → is_listed q (xs ++ c ∷ []) ≡ is_listed q xs || same c q
listed_more [] c q = by (same c q)
  where
    by : (b : Bool) → b || false ≡ b
    by true = refl
    by false = refl
listed_more (x ∷ xs) c q = ap (λ (b : Bool). same x q || b) (listed_more xs c q) ∙ by (same x q)
  where
    by : (a : Bool) → a || (is_listed q xs || same c q) ≡ (a || is_listed q xs) || same c q
    by true = refl
    by false = refl

abbrev told : List (List ℕ) → Bool → List ℕ → Option ℕ
told xs b q = if b then Some (suc (place_of xs q)) else None

number_more : (xs : List (List ℕ)) (c q : List ℕ) → first_number (xs ++ c ∷ []) q ≡ (if is_listed q xs then first_number xs q else if same c q then Some (suc (length xs)) else None)
number_more xs c q = ap (λ (b : Bool). told (xs ++ c ∷ []) b q) (listed_more xs c q) ∙ by (is_listed q xs) (same c q) refl refl
  where
    by : (a b : Bool) → is_listed q xs ≡ a → same c q ≡ b → told (xs ++ c ∷ []) (a || b) q ≡ (if a then told xs a q else if b then Some (suc (length xs)) else None)
    by true b e f = ap (λ (n : ℕ). Some (suc n)) (place_front xs (c ∷ []) q e)
    by false true e f = ap (λ (n : ℕ). Some (suc n)) (place_last xs c q e f)
    by false false e f = refl

none_found : (xs : List (List ℕ)) (q : List ℕ) (o : Option ℕ) → o ≡ first_number xs q → is_some o ≡ is_listed q xs
none_found xs q o e = ap is_some e ∙ by (is_listed q xs)
  where
    by : (b : Bool) → is_some (if b then Some (suc (place_of xs q)) else None) ≡ b
    by true = refl
    by false = refl

few_more : (xs : List (List ℕ)) (c : List ℕ) → length xs < 2 ^ 32 - 1 → length (xs ++ c ∷ []) < 2 ^ 32
few_more xs c lt = let l = length-append xs (c ∷ []) in omega (arith, l, lt)

-- a class that stands there
pub numbers_again : (xs : List (List ℕ)) (m : BTreeMap (Vec ℕ) ℕ) (c : List ℕ) → AreNumbers xs m → is_some (kept_at m c) ≡ true → length xs < 2 ^ 32 - 1 → AreNumbers (xs ++ c ∷ []) m
numbers_again xs m c h some lt = record {
  few = few_more xs c lt;
  found = λ q. h.found q ∙ sym (number_more xs c q ∙ by q (is_listed q xs) (same c q) refl refl);
}
  where
    there : is_listed c xs ≡ true
    there = sym (none_found xs c (kept_at m c) (h.found c)) ∙ some

    by : (q : List ℕ) (a b : Bool) → is_listed q xs ≡ a → same c q ≡ b → (if a then first_number xs q else if b then Some (suc (length xs)) else None) ≡ first_number xs q
    by q true b e f = refl
    by q false true e f =
        let t : is_listed q xs ≡ true = subst (λ (z : List ℕ). is_listed z xs ≡ true) (bytes_are c q f) there in absurd cc
    by q false false e f = sym (ap (λ (b : Bool). if b then Some (suc (place_of xs q)) else None) e)

-- a new one
pub numbers_more : (xs : List (List ℕ)) (m n : BTreeMap (Vec ℕ) ℕ) (c : List ℕ) → AreNumbers xs m → is_some (kept_at m c) ≡ false → ((q : List ℕ) → kept_at n q ≡ (if same c q then Some (suc (length xs)) else kept_at m q)) → length xs < 2 ^ 32 - 1 → AreNumbers (xs ++ c ∷ []) n
numbers_more xs m n c h none set lt = record {
  few = few_more xs c lt;
  found = λ q. set q ∙ ap (λ (o : Option ℕ). if same c q then Some (suc (length xs)) else o) (h.found q) ∙ sym (number_more xs c q ∙ by q (is_listed q xs) (same c q) refl refl);
}
  where
    absent : is_listed c xs ≡ false
    absent = sym (none_found xs c (kept_at m c) (h.found c)) ∙ none

    by : (q : List ℕ) (a b : Bool) → is_listed q xs ≡ a → same c q ≡ b → (if a then first_number xs q else if b then Some (suc (length xs)) else None) ≡ (if b then Some (suc (length xs)) else first_number xs q)
    by q true true e f =
        let t : is_listed q xs ≡ false = subst (λ (z : List ℕ). is_listed z xs ≡ false) (bytes_are c q f) absent in absurd cc
    by q true false e f = refl
    by q false true e f = refl
    by q false false e f = sym (ap (λ (b : Bool). if b then Some (suc (place_of xs q)) else None) e)

-- ---- a class that has a number

pub number_listed : (cs : List (List ℕ)) (c : List ℕ) → suc (place_of cs c) ≤ length cs → is_listed c cs ≡ true
number_listed [] c le = absurd (omega (arith, le))
number_listed (x ∷ xs) c le = by (same x c) (number_listed xs c) le
  where
    by : (b : Bool) → (suc (place_of xs c) ≤ length xs → is_listed c xs ≡ true) → suc (if b then 0 else suc (place_of xs c)) ≤ suc (length xs) → b || is_listed c xs ≡ true
    by true h le = refl
    by false h le = h (omega (arith, le))

none_first : (cs : List (List ℕ)) (c : List ℕ) (b : Bool) → b ≡ true → None ≡ (if b then Some (suc (place_of cs c)) else None) → ⊥
none_first cs c true e f = absurd cc
none_first cs c false e f = absurd cc

pub none_zero : (cs : List (List ℕ)) (o : Option (List ℕ)) (q : List ℕ) → o ≡ Some q → None ≡ first_number cs q → number_of cs o ≤ length cs → 0 ≡ number_of cs o
none_zero cs o q is none le =
    let low = subst (λ (x : Option (List ℕ)). number_of cs x ≤ length cs) is le in
    absurd (none_first cs q (is_listed q cs) (number_listed cs q low) none)

pub numbers_set : (xs : List (List ℕ)) (m n : BTreeMap (Vec ℕ) ℕ) (c : List ℕ) (key : Vec ℕ) (v : ℕ) → AreNumbers xs m → is_some (kept_at m c) ≡ false → key.items ≡ c → v ≡ suc (length xs) → length xs < 2 ^ 32 - 1
    → tree.UpdatesBy (λ x y. slice_cmp nat_cmp x.items y.items) (λ k. slice_cmp nat_cmp key.items k.items) m n (Some v) → AreNumbers (xs ++ c ∷ []) n
numbers_set xs m n c key v h none is count lt u =
    numbers_more xs m n c h none
    (λ q. set_key key v m n u q ∙ ap (λ (z : List ℕ). if same z q then Some v else kept_at m q) is ∙ ap (λ (w : ℕ). if same c q then Some w else kept_at m q) count) lt
