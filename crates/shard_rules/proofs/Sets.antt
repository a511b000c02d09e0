-- Heads have no fault exactly where they are those of all shards, each once.
use Rattle.std.proofs.Common.{◌≡◌, ◌∙◌, ℕ, zero, suc, ◌+◌, ◌<◌, ◌≤◌, Bool, true, false, cond, List, [], ◌∷◌, take, Option, Some, None, refl, sym, ap, subst, arith, nat_eq, slice_get, inl, inr}
use Rattle.std.specs.Prelude.{find, not, ◌||◌, option_map, slice_index_or}
use Rattle.std.specs.List.{enumerate_from, range_with_len}
use Rattle.std.specs.Option.{option_or}
use Rattle.std.proofs.lemmas.Bool.{eqb-true, eq-eqb, cases_lt}
use Rattle.std.proofs.lemmas.Option.{slice_get-get_or, slice_get_within, get_or_from_slice_get}
use Rattle.shard_rules.specs.declared.head.Head.{Head}
use Rattle.shard_rules.specs.declared.set_fault.SetFault.{SetFault}
use Rattle.shard_rules.specs.declared.set_fault.SetFault.TheVariants.{Count, Doubled, Missing}
use Rattle.shard_rules.specs.Sets.{shard_count, has_index, placed, count_fault, doubled_fault, missing_fault, set_fault}
use Rattle.shard_rules.specs.Laws.{IsWholeSet, SetsAreWhole, WholeSetsPass}

-- ---- what is found

none_case : {X : Type 0} (b : Bool) (x : X) (o : Option X) → cond b (Some x) o ≡ None → (b ≡ false) × (o ≡ None)
none_case true x o e = absurd cc
none_case false x o e = (refl, e)

find_none : {X : Type 0} (test : X → Bool) (xs : List X) → find test xs ≡ None → (k : ℕ) (x : X) → slice_get xs k ≡ Some x → test x ≡ false
find_none test [] e k x g = absurd cc
find_none test (y ∷ ys) e zero x g =
    let same : y ≡ x = cc in
    subst (λ z. test z ≡ false) same (none_case (test y) y (find test ys) e).0
find_none test (y ∷ ys) e (suc k) x g = find_none test ys (none_case (test y) y (find test ys) e).1 k x g

no_find : {X : Type 0} (test : X → Bool) (xs : List X) → ((k : ℕ) (x : X) → slice_get xs k ≡ Some x → test x ≡ false) → find test xs ≡ None
no_find test [] h = refl
no_find test (y ∷ ys) h = ap (λ (b : Bool). cond b (Some y) (find test ys)) (h 0 y refl) ∙ no_find test ys (λ k x g. h (suc k) x g)

unmapped : {X Y : Type 0} (f : X → Y) (o : Option X) → option_map f o ≡ None → o ≡ None
unmapped f None e = refl
unmapped f (Some x) e = absurd cc

both_none : {X : Type 0} (o p : Option X) → option_or o p ≡ None → (o ≡ None) × (p ≡ None)
both_none None p e = (refl, e)
both_none (Some x) p e = absurd cc

not_false : (b : Bool) → not b ≡ false → b ≡ true
not_false true e = refl
not_false false e = absurd cc

false_of : (b : Bool) → (b ≡ true → ⊥) → b ≡ false
false_of true no_more = absurd (no_more refl)
false_of false no_more = refl

or_none : (a b : Bool) → a || b ≡ false → (a ≡ false) × (b ≡ false)
or_none true b e = absurd cc
or_none false b e = (refl, e)

-- ---- places

placed_get : (n : ℕ) (hs : List Head) (k : ℕ) (h : Head) → slice_get hs k ≡ Some h → slice_get (enumerate_from n hs) k ≡ Some (n + k, h)
placed_get n [] k h e = absurd cc
placed_get n (g ∷ hs) zero h e =
    let same : g ≡ h = cc in
    let at : n ≡ n + 0 = omega arith in
    λ i. Some (at i, same i)
placed_get n (g ∷ hs) (suc k) h e =
    let at : n + 1 + k ≡ n + suc k = omega arith in
    placed_get (n + 1) hs k h e ∙ ap (λ (j : ℕ). Some (j, h)) at

placed_back : (n : ℕ) (hs : List Head) (k : ℕ) (p : ℕ × Head) → slice_get (enumerate_from n hs) k ≡ Some p → (p.0 ≡ n + k) × (slice_get hs k ≡ Some p.1)
placed_back n [] k p e = absurd cc
placed_back n (g ∷ hs) zero p e =
    let same : (n, g) ≡ p = cc in
    let at : n ≡ n + 0 = omega arith in
    (sym (ap (λ (x : ℕ × Head). x.0) same) ∙ at, ap (λ (x : ℕ × Head). Some x.1) same)
placed_back n (g ∷ hs) (suc k) p e =
    let more = placed_back (n + 1) hs k p e in
    let at : n + 1 + k ≡ n + suc k = omega arith in
    (more.0 ∙ at, more.1)

range_back : (a n k i : ℕ) → slice_get (range_with_len a n) k ≡ Some i → (a ≤ i) × (i < a + n)
range_back a zero k i e = absurd cc
range_back a (suc n) zero i e = let same : a ≡ i = cc in (omega (arith, same), omega (arith, same))
range_back a (suc n) (suc k) i e =
    let more = range_back (a + 1) n k i e in
    let low = more.0 in
    let high = more.1 in
    (omega (arith, low), omega (arith, high))

range_get : (a n d : ℕ) → d < n → slice_get (range_with_len a n) d ≡ Some (a + d)
range_get a zero d lt = absurd (omega (arith, lt))
range_get a (suc n) zero lt = let at : a ≡ a + 0 = omega arith in ap (λ (j : ℕ). Some j) at
range_get a (suc n) (suc d) lt =
    let at : a + 1 + d ≡ a + suc d = omega arith in
    range_get (a + 1) n d (omega (arith, lt)) ∙ ap (λ (j : ℕ). Some j) at

none_before : (k : ℕ) (hs : List Head) (i : ℕ) → has_index (take k hs) i ≡ false → (j : ℕ) (g : Head) → j < k → slice_get hs j ≡ Some g → nat_eq g.index i ≡ false
none_before zero hs i e j g lt at = absurd (omega (arith, lt))
none_before (suc k) [] i e j g lt at = absurd cc
none_before (suc k) (h ∷ hs) i e zero g lt at =
    let same : h ≡ g = cc in
    subst (λ (x : Head). nat_eq x.index i ≡ false) same (or_none (nat_eq h.index i) (has_index (take k hs) i) e).0
none_before (suc k) (h ∷ hs) i e (suc j) g lt at = none_before k hs i (or_none (nat_eq h.index i) (has_index (take k hs) i) e).1 j g (omega (arith, lt)) at

all_before : (k : ℕ) (hs : List Head) (i : ℕ) → ((j : ℕ) (g : Head) → j < k → slice_get hs j ≡ Some g → nat_eq g.index i ≡ false) → has_index (take k hs) i ≡ false
all_before zero hs i h = refl
all_before (suc k) [] i h = refl
all_before (suc k) (x ∷ hs) i h =
    ap (λ (b : Bool). b || has_index (take k hs) i) (h 0 x (omega arith) refl)
    ∙ all_before k hs i (λ j g lt at. h (suc j) g (omega (arith, lt)) at)

-- ---- heads without a fault

record HaveNone (hs : List Head) : Type 0 where
  count : (k : ℕ) (h : Head) → slice_get hs k ≡ Some h → h.of ≡ shard_count hs
  doubled : (j k : ℕ) (g h : Head) → j < k → slice_get hs j ≡ Some g → slice_get hs k ≡ Some h → nat_eq g.index h.index ≡ false
  missing : (i : ℕ) → 0 < i → i ≤ shard_count hs → has_index hs i ≡ true

have_none : (hs : List Head) → set_fault hs ≡ None → HaveNone hs
have_none hs e =
    let a = both_none (count_fault hs) (option_or (doubled_fault hs) (missing_fault hs)) e in
    let b = both_none (doubled_fault hs) (missing_fault hs) a.1 in
    let counts = unmapped (λ (p : ℕ × Head). Count p.0 p.1.of (shard_count hs)) (find (λ p. not (nat_eq p.1.of (shard_count hs))) (placed hs)) a.0 in
    let doubles = unmapped (λ (p : ℕ × Head). Doubled p.1.index p.0) (find (λ p. has_index (take p.0 hs) p.1.index) (placed hs)) b.0 in
    let misses = unmapped Missing (find (λ i. not (has_index hs i)) (range_with_len 1 (shard_count hs))) b.1 in
    record {
      count = λ k h at. eqb-true h.of (shard_count hs) (not_false (nat_eq h.of (shard_count hs)) (find_none (λ (p : ℕ × Head). not (nat_eq p.1.of (shard_count hs))) (placed hs) counts k (0 + k, h) (placed_get 0 hs k h at)));
      doubled = λ j k g h lt one other. none_before (0 + k) hs h.index (find_none (λ (p : ℕ × Head). has_index (take p.0 hs) p.1.index) (placed hs) doubles k (0 + k, h) (placed_get 0 hs k h other)) j g (omega (arith, lt)) one;
      missing = λ i some le.
          let d : ℕ = prev i in
          let is : 1 + d ≡ i = prev_is i some in
          not_false (has_index hs i) (find_none (λ (i : ℕ). not (has_index hs i)) (range_with_len 1 (shard_count hs)) misses d i (range_get 1 (shard_count hs) d (omega (arith, is, le)) ∙ ap (λ (j : ℕ). Some j) is));
    }
  where
    prev : ℕ → ℕ
    prev zero = zero
    prev (suc k) = k

    prev_is : (i : ℕ) → 0 < i → 1 + prev i ≡ i
    prev_is zero some = absurd (omega (arith, some))
    prev_is (suc k) some = omega arith

pub sets_are_whole : SetsAreWhole
sets_are_whole hs e =
    let none = have_none hs e in
    record {
      count = λ k d lt. none.count k (slice_index_or hs k d) (slice_get-get_or hs k d lt);
      each = none.missing;
      once = λ j k g h one other same. apart hs none j k g h one other same;
    }
  where
    apart : (hs : List Head) → HaveNone hs → (j k : ℕ) (g h : Head) → slice_get hs j ≡ Some g → slice_get hs k ≡ Some h → g.index ≡ h.index → j ≡ k
    apart hs none j k g h one other same =
        elim (cases_lt j k) [
          | inl lt ↦ let a : true ≡ false = sym (eq-eqb g.index h.index same) ∙ none.doubled j k g h lt one other in absurd cc
          | inr le ↦ elim (cases_lt k j) [
            | inl lt ↦ let a : true ≡ false = sym (eq-eqb h.index g.index (sym same)) ∙ none.doubled k j h g lt other one in absurd cc
            | inr ge ↦ omega (arith, le, ge)
          ]
        ]

-- ---- all of them, each once

count_passes : (n : ℕ) (hs : List Head) → shard_count hs ≡ n → IsWholeSet n hs → count_fault hs ≡ None
count_passes n hs same w =
    ap (λ (o : Option (ℕ × Head)). option_map (λ p. Count p.0 p.1.of (shard_count hs)) o)
    (no_find (λ (p : ℕ × Head). not (nat_eq p.1.of (shard_count hs))) (placed hs) (λ k p at.
    let back = placed_back 0 hs k p at in
    let of : p.1.of ≡ n = subst (λ (h : Head). h.of ≡ n) (get_or_from_slice_get hs k p.1 p.1 back.1) (w.count k p.1 (slice_get_within hs k p.1 back.1)) in
    ap (λ (b : Bool). not b) (eq-eqb p.1.of (shard_count hs) (of ∙ sym same))))

doubled_passes : (n : ℕ) (hs : List Head) → IsWholeSet n hs → doubled_fault hs ≡ None
doubled_passes n hs w =
    ap (λ (o : Option (ℕ × Head)). option_map (λ p. Doubled p.1.index p.0) o)
    (no_find (λ (p : ℕ × Head). has_index (take p.0 hs) p.1.index) (placed hs) (λ k p at.
    let back = placed_back 0 hs k p at in
    let place = back.0 in
    all_before p.0 hs p.1.index (λ j g lt one.
    false_of (nat_eq g.index p.1.index) (λ yes.
    let same = w.once j k g p.1 one back.1 (eqb-true g.index p.1.index yes) in
    omega (arith, lt, place, same)))))

missing_passes : (n : ℕ) (hs : List Head) → shard_count hs ≡ n → IsWholeSet n hs → missing_fault hs ≡ None
missing_passes n hs same w =
    ap (λ (o : Option ℕ). option_map Missing o)
    (no_find (λ (i : ℕ). not (has_index hs i)) (range_with_len 1 (shard_count hs)) (λ k i at.
    let within = range_back 1 (shard_count hs) k i at in
    let low = within.0 in
    let high = within.1 in
    ap (λ (b : Bool). not b) (w.each i (omega (arith, low)) (omega (arith, high, same)))))

pub whole_sets_pass : WholeSetsPass
whole_sets_pass n [] w = refl
whole_sets_pass n (h ∷ hs) w =
    let same : h.of ≡ n = w.count 0 h (omega arith) in
    ap (λ (o : Option SetFault). option_or o (option_or (doubled_fault (h ∷ hs)) (missing_fault (h ∷ hs)))) (count_passes n (h ∷ hs) same w)
    ∙ ap (λ (o : Option SetFault). option_or o (missing_fault (h ∷ hs))) (doubled_passes n (h ∷ hs) w)
    ∙ missing_passes n (h ∷ hs) same w
