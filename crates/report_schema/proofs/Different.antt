-- The different keys among some keys: they ascend, and they have the members that the keys have.
use Rattle.std.proofs.Common.{◌≡◌, ℕ, Bool, true, false, ◌||◌, List, [], ◌∷◌, Ordering, Less, Equal, Greater, refl, sym, ap, ◌∙◌}
use Rattle.std.specs.BTreeSet.{insert_key}
use Rattle.std.specs.Cmp.Lexicographic.{slice_cmp}
use Rattle.std.specs.List.{AllByRecursion, list_any}
use Rattle.std.specs.List.Sorted.{IsStrictlySortedBy}
use Rattle.std.specs.Ordering.{nat_cmp, match_ordering, ordering_reverse}
use Rattle.std.proofs.lemmas.Cmp.{nat_list_cmp_total}
use Rattle.std.proofs.lemmas.Map.Lookups.{exact_bytes}
use Rattle.report_schema.specs.Keyed.{different}

abbrev pub Key : Type 0
Key = List ℕ

abbrev pub by_bytes : Key → Key → Ordering
by_bytes = slice_cmp nat_cmp

all_insert : (P : Key → Type 0) (k : Key) (ks : List Key) → P k → AllByRecursion P ks → AllByRecursion P (insert_key by_bytes ks k)
all_insert P k [] p a = (p, tt)
all_insert P k (x ∷ xs) p a = by (by_bytes k x) (all_insert P k xs p a.1)
  where
    by : (o : Ordering) → AllByRecursion P (insert_key by_bytes xs k) → AllByRecursion P (match_ordering o (k ∷ x ∷ xs) (x ∷ xs) (x ∷ insert_key by_bytes xs k))
    by Less h = (p, a)
    by Equal h = a
    by Greater h = (a.0, h)

below_all : (k x : Key) (xs : List Key) → by_bytes k x ≡ Less → AllByRecursion (λ y. by_bytes x y ≡ Less) xs → AllByRecursion (λ y. by_bytes k y ≡ Less) xs
below_all k x [] less a = tt
below_all k x (y ∷ ys) less a = (nat_list_cmp_total.trans k x y less a.0, below_all k x ys less a.1)

sorted_insert : (k : Key) (ks : List Key) → IsStrictlySortedBy by_bytes ks → IsStrictlySortedBy by_bytes (insert_key by_bytes ks k)
unfolding IsStrictlySortedBy
sorted_insert k [] s = (tt, tt)
sorted_insert k (x ∷ xs) s = by (by_bytes k x) refl (sorted_insert k xs s.1)
  where
    by : (o : Ordering) → by_bytes k x ≡ o → IsStrictlySortedBy by_bytes (insert_key by_bytes xs k) → IsStrictlySortedBy by_bytes (match_ordering o (k ∷ x ∷ xs) (x ∷ xs) (x ∷ insert_key by_bytes xs k))
    by Less e h = ((e, below_all k x xs e s.0), s)
    by Equal e h = s
    by Greater e h = (all_insert (λ y. by_bytes x y ≡ Less) k xs (nat_list_cmp_total.antisymm x k ∙ ap ordering_reverse e) s.0, h)

pub sorted_different : (ks : List Key) → IsStrictlySortedBy by_bytes (different ks)
unfolding IsStrictlySortedBy
sorted_different [] = tt
sorted_different (k ∷ ks) = sorted_insert k (different ks) (sorted_different ks)

or_again : (a b : Bool) → (a || b) ≡ (a || (a || b))
or_again true b = refl
or_again false b = refl

or_swap : (a b c : Bool) → (a || (b || c)) ≡ (b || (a || c))
or_swap true true c = refl
or_swap true false c = refl
or_swap false true c = refl
or_swap false false c = refl

any_insert : (test : Key → Bool) (k : Key) (ks : List Key) → list_any test (insert_key by_bytes ks k) ≡ (test k || list_any test ks)
any_insert test k [] = refl
any_insert test k (x ∷ xs) = by (by_bytes k x) refl (any_insert test k xs)
  where
    by : (o : Ordering) → by_bytes k x ≡ o → list_any test (insert_key by_bytes xs k) ≡ (test k || list_any test xs)
        → list_any test (match_ordering o (k ∷ x ∷ xs) (x ∷ xs) (x ∷ insert_key by_bytes xs k)) ≡ (test k || (test x || list_any test xs))
    by Less e h = refl
    by Equal e h = or_again (test x) (list_any test xs) ∙ ap (λ key. test key || (test x || list_any test xs)) (sym (exact_bytes k x e))
    by Greater e h = ap (λ b. test x || b) h ∙ or_swap (test x) (test k) (list_any test xs)

pub any_different : (test : Key → Bool) (ks : List Key) → list_any test (different ks) ≡ list_any test ks
any_different test [] = refl
any_different test (k ∷ ks) = any_insert test k (different ks) ∙ ap (λ b. test k || b) (any_different test ks)
