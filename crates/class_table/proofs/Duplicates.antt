-- How the numbers of names are made, and how two classes of one name are found.
use Rattle.std.proofs.Common.{◌≡◌, ◌∙◌, sym, refl, ap, ℕ, zero, suc, ◌+◌, ◌<◌, ◌≤◌, Bool, true, false, List, [], ◌∷◌, ◌++◌, length, Option, None, Some, slice_get, map, take, arith}
use Rattle.std.specs.Prelude.{not, if◌then◌else◌, cond, IsTrue, is_some}
use Rattle.std.specs.Ordering.{nat_cmp, is_lt, is_le, ordering_reverse}
use Rattle.std.specs.declared.cmp.Ordering.{Ordering}
use Rattle.std.specs.declared.cmp.Ordering.TheVariants.{Less, Equal, Greater}
use Rattle.std.specs.Cmp.Lexicographic.{slice_cmp, nat_list_cmp_total, bytes_decides}
use Rattle.class_model.specs.Text.{text}
use Rattle.program_rules.specs.Names.{Name, same}
use Rattle.class_link.specs.Info.{Info}
use Rattle.class_table.specs.Table.{names, number_of, place_from, place_in, name_or_none, AreDistinct, IsDuplicate, IsLeastDuplicate}
use Rattle.class_table.specs.Numbers.{with_number, is_place}
use Rattle.class_table.specs.Least.{IsMarked, IsLeastMarked}
use Rattle.class_table.specs.Flaws.{repeated_from, repeated}
use Rattle.class_table.proofs.Places.{name_at_place}

-- ---- numbers

pub added : (b : Bool) (o : Option ℕ) (k : ℕ) → (b ≡ true → o ≡ None) → cond b (Some k) o ≡ with_number o b k
added true None k h = refl
added true (Some j) k h = let e = h refl in absurd cc
added false None k h = refl
added false (Some j) k h = refl

pub none_there : (o : Option ℕ) → is_some o ≡ false → o ≡ None
none_there None e = refl
none_there (Some j) e = absurd cc

append_case : (b : Bool) (q m : Name) (i : ℕ) (ms : List Name) → place_from q (suc i) (ms ++ m ∷ []) ≡ with_number (place_from q (suc i) ms) (same m q) (suc i + length ms) → (if b then Some i else place_from q (suc i) (ms ++ m ∷ [])) ≡ with_number (if b then Some i else place_from q (suc i) ms) (same m q) (i + suc (length ms))
append_case true q m i ms h = refl
append_case false q m i ms h = let e : suc i + length ms ≡ i + suc (length ms) = omega arith in h ∙ ap (with_number (place_from q (suc i) ms) (same m q)) e

append_from : (q m : Name) (i : ℕ) (ms : List Name) → place_from q i (ms ++ m ∷ []) ≡ with_number (place_from q i ms) (same m q) (i + length ms)
append_from q m i [] = let e : i ≡ i + 0 = omega arith in ap (λ k. if same m q then Some k else None) e
append_from q m i (x ∷ ms) = append_case (same x q) q m i ms (append_from q m (suc i) ms)

pub place_append : (q m : Name) (ms : List Name) → place_in (ms ++ m ∷ []) q ≡ with_number (place_in ms q) (same m q) (length ms)
place_append q m ms = append_from q m 0 ms ∙ ap (with_number (place_in ms q) (same m q)) (let e : 0 + length ms ≡ length ms = omega arith in e)

-- ---- the first place of a name

abbrev Early : Name → ℕ → List Name → ℕ → Type 0
Early q i ms f = (j : ℕ) × (j ≤ i + f) × (place_from q i ms ≡ Some j)

early_case : (b : Bool) (q : Name) (i f : ℕ) (ms : List Name) → Early q (suc i) ms f → (j : ℕ) × (j ≤ i + suc f) × ((if b then Some i else place_from q (suc i) ms) ≡ Some j)
early_case true q i f ms h = (i, omega arith, refl)
early_case false q i f ms h = (h.0, omega (arith, h.1), h.2)

early_first : (q x : Name) (i : ℕ) (ms : List Name) → x ≡ q → Early q i (x ∷ ms) zero
early_first q x i ms e = let s : same x q ≡ true = (bytes_decides x q).1 e in (i, omega arith, ap (λ b. if b then Some i else place_from q (suc i) ms) s)

pub early : (q : Name) (i f : ℕ) (ms : List Name) → slice_get ms f ≡ Some q → Early q i ms f
early q i f [] h = absurd cc
early q i zero (x ∷ ms) h = early_first q x i ms (let e : x ≡ q = cc in e)
early q i (suc f) (x ∷ ms) h = early_case (same x q) q i f ms (early q (suc i) f ms h)

-- ---- the order of names

abbrev cmp : Name → Name → Ordering
cmp n m = slice_cmp nat_cmp (text n) (text m)

pub le_self : (xs : List ℕ) → IsTrue (is_le (slice_cmp nat_cmp xs xs))
le_self xs = self_case (slice_cmp nat_cmp xs xs) (nat_list_cmp_total.antisymm xs xs)
  where
    self_case : (o : Ordering) → o ≡ ordering_reverse o → IsTrue (is_le o)
    self_case Less e = refl
    self_case Equal e = refl
    self_case Greater e = absurd cc

pub not_before : (xs ys : List ℕ) → is_lt (slice_cmp nat_cmp ys xs) ≡ false → IsTrue (is_le (slice_cmp nat_cmp xs ys))
not_before xs ys h = rw (nat_list_cmp_total.antisymm xs ys) (other_case (slice_cmp nat_cmp ys xs) h)
  where
    other_case : (o : Ordering) → is_lt o ≡ false → IsTrue (is_le (ordering_reverse o))
    other_case Less e = absurd cc
    other_case Equal e = refl
    other_case Greater e = refl

is_less : (o : Ordering) → is_lt o ≡ true → o ≡ Less
is_less Less e = refl
is_less Equal e = absurd cc
is_less Greater e = absurd cc

less_is_le : (o : Ordering) → o ≡ Less → IsTrue (is_le o)
less_is_le o e = rw e refl

pub before_all : (xs ys zs : List ℕ) → is_lt (slice_cmp nat_cmp xs ys) ≡ true → IsTrue (is_le (slice_cmp nat_cmp ys zs)) → IsTrue (is_le (slice_cmp nat_cmp xs zs))
before_all xs ys zs lt le = third (slice_cmp nat_cmp ys zs) refl le
  where
    first : slice_cmp nat_cmp xs ys ≡ Less
    first = is_less (slice_cmp nat_cmp xs ys) lt

    third : (o : Ordering) → slice_cmp nat_cmp ys zs ≡ o → IsTrue (is_le o) → IsTrue (is_le (slice_cmp nat_cmp xs zs))
    third Less e h = less_is_le _ (nat_list_cmp_total.trans xs ys zs first e)
    third Equal e h =
        let back : slice_cmp nat_cmp zs xs ≡ slice_cmp nat_cmp ys xs = sym (nat_list_cmp_total.congr ys zs xs e) in
        let there : slice_cmp nat_cmp xs zs ≡ slice_cmp nat_cmp xs ys = nat_list_cmp_total.antisymm xs zs ∙ ap ordering_reverse back ∙ sym (nat_list_cmp_total.antisymm xs ys) in
        less_is_le _ (there ∙ first)
    third Greater e h = absurd cc

-- ---- a name that stands at a place

placed_there : (place : Option ℕ) (i : ℕ) → is_place place i ≡ true → place ≡ Some i
placed_there None i e = absurd cc
placed_there (Some k) i e = let same : k ≡ i = grind arith in ap Some same

placed_elsewhere : (place : Option ℕ) (i j : ℕ) → is_place place i ≡ false → place ≡ Some j → j ≤ i → j < i
placed_elsewhere None i j e h le = absurd cc
placed_elsewhere (Some k) i j e h le = let same : k ≡ j = cc in grind (arith, same, le)

duplicate_at : (ns : List Name) (i : ℕ) (m : Name) → slice_get ns i ≡ Some m → is_place (place_in ns m) i ≡ false → IsDuplicate ns m
duplicate_at ns i m there other =
    let early-one = early m 0 i ns there in
    let le : early-one.0 ≤ i = omega (arith, early-one.1) in
    record {
      first = early-one.0;
      second = i;
      apart = placed_elsewhere (place_in ns m) i early-one.0 other early-one.2 le;
      one = name_at_place m early-one.0 ns early-one.2;
      two = there;
    }

-- ---- the names that are marked

repeated_at : (ns : List Name) (i : ℕ) (ms : List Name) (k : ℕ) (m : Name) → slice_get ms k ≡ Some m → slice_get (repeated_from ns i ms) k ≡ Some (not (is_place (place_in ns m) (i + k)))
repeated_at ns i [] k m h = absurd cc
repeated_at ns i (x ∷ ms) zero m h = let e : x ≡ m = cc in let z : i ≡ i + 0 = omega arith in ap (λ y. Some (not (is_place (place_in ns y) i))) e ∙ ap (λ j. Some (not (is_place (place_in ns m) j))) z
repeated_at ns i (x ∷ ms) (suc k) m h = let z : suc i + k ≡ i + suc k = omega arith in repeated_at ns (suc i) ms k m h ∙ ap (λ j. Some (not (is_place (place_in ns m) j))) z

pub repeated_here : (ns : List Name) (k : ℕ) (m : Name) → slice_get ns k ≡ Some m → slice_get (repeated ns) k ≡ Some (not (is_place (place_in ns m) k))
repeated_here ns k m h = repeated_at ns 0 ns k m h ∙ ap (λ j. Some (not (is_place (place_in ns m) j))) (let z : 0 + k ≡ k = omega arith in z)

not_place : (b : Bool) → Some (not b) ≡ Some true → b ≡ false
not_place true e = absurd cc
not_place false e = refl

first_place : (ns : List Name) (k : ℕ) (m : Name) → slice_get ns k ≡ Some m → (IsMarked (repeated ns) k → ⊥) → place_in ns m ≡ Some k
first_place ns k m there unmarked = by_test (is_place (place_in ns m) k) refl
  where
    by_test : (b : Bool) → is_place (place_in ns m) k ≡ b → place_in ns m ≡ Some k
    by_test true e = placed_there (place_in ns m) k e
    by_test false e = absurd (unmarked (repeated_here ns k m there ∙ ap (λ b. Some (not b)) e))

-- No name is marked.
pub are_distinct : (ns : List Name) → IsLeastMarked ns (repeated ns) None → AreDistinct ns
are_distinct ns h i lt =
    let there : slice_get ns i ≡ Some (name_or_none (slice_get ns i)) = there_at ns i lt in
    first_place ns i (name_or_none (slice_get ns i)) there (h i (name_or_none (slice_get ns i)) there)
  where
    there_at : (ms : List Name) (k : ℕ) → k < length ms → slice_get ms k ≡ Some (name_or_none (slice_get ms k))
    there_at [] k lt = absurd (omega (arith, lt))
    there_at (x ∷ ms) zero lt = refl
    there_at (x ∷ ms) (suc k) lt = there_at ms k (omega (arith, lt))

-- The second of two places is marked.
second_marked : (ns : List Name) (m : Name) (twice : IsDuplicate ns m) → IsMarked (repeated ns) twice.second
second_marked ns m twice = by_test (is_place (place_in ns m) twice.second) refl
  where
    by_test : (b : Bool) → is_place (place_in ns m) twice.second ≡ b → IsMarked (repeated ns) twice.second
    by_test false e = repeated_here ns twice.second m twice.two ∙ ap (λ b. Some (not b)) e
    by_test true e =
        let before = early m 0 twice.first ns twice.one in
        let same : Some twice.second ≡ Some before.0 = sym (placed_there (place_in ns m) twice.second e) ∙ before.2 in
        let one : twice.second ≡ before.0 = cc in
        let le = before.1 in
        let apart = twice.apart in
        absurd (omega (arith, le, apart, one))

pub least_duplicate : (ns : List Name) (n : Name) → IsLeastMarked ns (repeated ns) (Some n) → IsLeastDuplicate ns n
least_duplicate ns n h = record {
  duplicate = duplicate_at ns h.place n h.there (not_place (is_place (place_in ns n) h.place) (sym (repeated_here ns h.place n h.there) ∙ h.marked));
  least = λ m twice. h.least twice.second m twice.two (second_marked ns m twice);
}

-- ---- one class more

module _ {A : Type 0} (f : A → Info) where
  take_next : (xs : List A) (i : ℕ) (x : A) → slice_get xs i ≡ Some x → take (suc i) xs ≡ take i xs ++ x ∷ []
  take_next [] i x h = absurd cc
  take_next (y ∷ xs) zero x h = let e : y ≡ x = cc in ap (λ z. z ∷ []) e
  take_next (y ∷ xs) (suc i) x h = ap (λ l. y ∷ l) (take_next xs i x h)

  names_append : (xs : List A) (x : A) → names (map f (xs ++ x ∷ [])) ≡ names (map f xs) ++ (f x).name ∷ []
  names_append [] x = refl
  names_append (y ∷ xs) x = ap (λ l. (f y).name ∷ l) (names_append xs x)

  taken_long : (xs : List A) (i : ℕ) (x : A) → slice_get xs i ≡ Some x → length (names (map f (take i xs))) ≡ i
  taken_long [] i x h = absurd cc
  taken_long (y ∷ xs) zero x h = refl
  taken_long (y ∷ xs) (suc i) x h = ap suc (taken_long xs i x h)

  pub number_next : (xs : List A) (i : ℕ) (x : A) (q : Name) → slice_get xs i ≡ Some x → number_of (map f (take (i + 1) xs)) q ≡ with_number (number_of (map f (take i xs)) q) (same (f x).name q) i
  number_next xs i x q h =
      let one : take (i + 1) xs ≡ take i xs ++ x ∷ [] = ap (λ k. take k xs) (let e : i + 1 ≡ suc i = omega arith in e) ∙ take_next xs i x h in
      ap (λ l. number_of (map f l) q) one ∙ ap (λ l. place_in l q) (names_append (take i xs) x) ∙ place_append q (f x).name (names (map f (take i xs)))
      ∙ ap (with_number (number_of (map f (take i xs)) q) (same (f x).name q)) (taken_long xs i x h)
