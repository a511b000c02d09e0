-- The bounds of a history's tests, by their numbers there.
use Rattle.std.proofs.Common.{◌≡◌, ◌∙◌, ◌⊎◌, sym, refl, ap, subst, ℕ, zero, suc, ◌+◌, ◌<◌, ◌≤◌, Bool, true, false, cond, ◌&&◌, List, [], ◌∷◌, Option, Some, None, length, map, take, replicate, slice_get, slice_set, slice_index, slice_index_or, arith, inl, inr, ⊎_elim, eqb-true}
use Rattle.std.specs.Prelude.{nat_eq, option_and_then, zip}
use Rattle.std.specs.List.{position_from}
use Rattle.std.specs.Cmp.Lexicographic.{same_text}
use Rattle.std.proofs.lemmas.Option.{slice_get_within}
use Rattle.class_model.specs.Text.{units_of}
use Rattle.machine_rules.specs.declared.machine.Limits.{Limits}
use Rattle.class_link.specs.Info.{Info}
use Rattle.class_table.specs.Table.{look}
use Rattle.class_table.specs.declared.scripted.Test.{Test}
use Rattle.program_rules.specs.Names.{Name, same}
use Rattle.history_file.specs.Rows.{name_or_empty}
use Rattle.history_index.specs.Lookouts.{IsLookout, question_of}
use Rattle.history_index.specs.Standings.{AreStandings}
use Rattle.run_records.specs.Asking.{held_by}
use Rattle.history_index.specs.Numbers.{Indexed, is_pair, name_number, pair_number, test_by, test_number, test_of_class}
use Rattle.suite_workers.specs.Old.{AreByName, AreInHistory, bound_set, bounds_set, no_test, test_at}
use Rattle.suite_workers.specs.declared.look_ups.InHistory.{InHistory}
use Rattle.suite_workers.proofs.Lists.{get_at, get_mapped, long_map, take_whole}

-- ---- positions

-- What stands at a position that was found.
pub record FoundAt {X : Type 0} (p : X → Bool) (k : ℕ) (xs : List X) (i : ℕ) : Type 0 where
  pub before : ℕ
  pub item : X
  pub place : i ≡ k + before
  pub stands : slice_get xs before ≡ Some item
  pub passes : p item ≡ true

found_case : {X : Type 0} (p : X → Bool) (k i : ℕ) (x : X) (xs : List X) (b : Bool) → p x ≡ b → (position_from p (k + 1) xs ≡ Some i → FoundAt p (k + 1) xs i) → cond b (Some k) (position_from p (k + 1) xs) ≡ Some i → FoundAt p k (x ∷ xs) i
found_case p k i x xs true is h e =
    let same : k ≡ i = cc in
    record { before = 0; item = x; place = omega (arith, same); stands = refl; passes = is }
found_case p k i x xs false is h e =
    let f = h e in
    let place = f.place in
    record { before = suc f.before; item = f.item; place = omega (arith, place); stands = f.stands; passes = f.passes }

found_at : {X : Type 0} (p : X → Bool) (k : ℕ) (xs : List X) (i : ℕ) → position_from p k xs ≡ Some i → FoundAt p k xs i
found_at p k [] i e = absurd cc
found_at p k (x ∷ xs) i e = found_case p k i x xs (p x) refl (found_at p (k + 1) xs i) e

-- Two names of one number are one name.
name_is : (texts : List (List ℕ)) (n m : Name) (i : ℕ) → name_number texts n ≡ Some i → name_number texts m ≡ Some i → n ≡ m
name_is texts n m i en em =
    let a = found_at (λ t. same (name_or_empty (units_of t)) n) 0 texts i en in
    let b = found_at (λ t. same (name_or_empty (units_of t)) m) 0 texts i em in
    let pa = a.place in let pb = b.place in
    let places : a.before ≡ b.before = omega (arith, pa, pb) in
    let both : Some a.item ≡ Some b.item = sym a.stands ∙ ap (slice_get texts) places ∙ b.stands in
    let item : a.item ≡ b.item = cc in
    sym (same_text (name_or_empty (units_of a.item)) n (sym a.passes))
    ∙ ap (λ t. name_or_empty (units_of t)) item
    ∙ same_text (name_or_empty (units_of b.item)) m (sym b.passes)

and_left : (a b : Bool) → (a && b) ≡ true → a ≡ true
and_left true b e = refl
and_left false b e = e

and_right : (a b : Bool) → (a && b) ≡ true → b ≡ true
and_right true b e = e
and_right false b e = absurd cc

-- The pair of a number.
pub record PairAt (tests : List (ℕ × ℕ)) (c m t : ℕ) : Type 0 where
  pub within : t < length tests
  pub stands : (d : ℕ × ℕ) → (slice_index_or tests t d).0 ≡ c
  pub second : (d : ℕ × ℕ) → (slice_index_or tests t d).1 ≡ m

pair_at : (tests : List (ℕ × ℕ)) (c m t : ℕ) → pair_number tests (c, m) ≡ Some t → PairAt tests c m t
pair_at tests c m t e =
    let f = found_at (λ q. is_pair q (c, m)) 0 tests t e in
    let place = f.place in
    let same : t ≡ f.before = omega (arith, place) in
    let stands : slice_get tests t ≡ Some f.item = ap (slice_get tests) same ∙ f.stands in
    let left = eqb-true f.item.0 c (and_left (nat_eq f.item.0 c) (nat_eq f.item.1 m) f.passes) in
    let right = eqb-true f.item.1 m (and_right (nat_eq f.item.0 c) (nat_eq f.item.1 m) f.passes) in
    record {
      within = slice_get_within tests t f.item stands;
      stands = λ d. ap (λ (q : ℕ × ℕ). q.0) (get_at tests t d f.item stands) ∙ left;
      second = λ d. ap (λ (q : ℕ × ℕ). q.1) (get_at tests t d f.item stands) ∙ right;
    }

-- The names of a test that has a number.
pub record TestAt (n : Indexed) (class method : Name) (t : ℕ) : Type 0 where
  pub c : ℕ
  pub m : ℕ
  pub class_is : name_number n.history.texts class ≡ Some c
  pub method_is : name_number n.history.texts method ≡ Some m
  pub pair : PairAt n.tests c m t

method_case : (n : Indexed) (class method : Name) (t c : ℕ) (o : Option ℕ) → name_number n.history.texts class ≡ Some c → name_number n.history.texts method ≡ o → test_of_class n.tests o c ≡ Some t → TestAt n class method t
method_case n class method t c None ec em e = absurd cc
method_case n class method t c (Some m) ec em e = record { c = c; m = m; class_is = ec; method_is = em; pair = pair_at n.tests c m t e }

class_case : (n : Indexed) (class method : Name) (t : ℕ) (o : Option ℕ) → name_number n.history.texts class ≡ o → test_by n.tests o (name_number n.history.texts method) ≡ Some t → TestAt n class method t
class_case n class method t None ec e = absurd cc
class_case n class method t (Some c) ec e = method_case n class method t c (name_number n.history.texts method) ec refl e

numbered_test : (n : Indexed) (class method : Name) (t : ℕ) → test_number n class method ≡ Some t → TestAt n class method t
numbered_test n class method t e = class_case n class method t (name_number n.history.texts class) refl e

-- ---- bounds that are set

long_set : (all : List ℕ) (k v : ℕ) → length (slice_set all k v) ≡ length all
long_set [] k v = refl
long_set (x ∷ all) zero v = refl
long_set (x ∷ all) (suc k) v = ap suc (long_set all k v)

set_here : (all : List ℕ) (k v : ℕ) → k < length all → slice_get (slice_set all k v) k ≡ Some v
set_here [] k v lt = absurd (omega (arith, lt))
set_here (x ∷ all) zero v lt = refl
set_here (x ∷ all) (suc k) v lt = set_here all k v (omega (arith, lt))

set_same : (all : List ℕ) (k v w t : ℕ) → slice_get all t ≡ Some v → (k ≡ t → w ≡ v) → slice_get (slice_set all k w) t ≡ Some v
set_same [] k v w t e h = absurd cc
set_same (x ∷ all) zero v w zero e h = ap Some (h refl)
set_same (x ∷ all) zero v w (suc t) e h = e
set_same (x ∷ all) (suc k) v w zero e h = e
set_same (x ∷ all) (suc k) v w (suc t) e h = set_same all k v w t e (λ is. h (ap suc is))

-- Each of these that is of a number has its bound.
abbrev Bound : ℕ → ℕ → Option ℕ × ℕ → Type 0
Bound t v z = z.0 ≡ Some t → z.1 ≡ v

kept_case : (all : List ℕ) (o : Option ℕ) (w t v : ℕ) → slice_get all t ≡ Some v → (o ≡ Some t → w ≡ v) → slice_get (bound_set all o w) t ≡ Some v
kept_case all None w t v e h = e
kept_case all (Some k) w t v e h = set_same all k v w t e (λ is. h (ap Some is))

stays : (zs : List (Option ℕ × ℕ)) (all : List ℕ) (t v : ℕ) → slice_get all t ≡ Some v → ((k : ℕ) (z : Option ℕ × ℕ) → slice_get zs k ≡ Some z → Bound t v z) → slice_get (bounds_set all zs) t ≡ Some v
stays [] all t v e h = e
stays (z ∷ zs) all t v e h = stays zs (bound_set all z.0 z.1) t v (kept_case all z.0 z.1 t v e (h 0 z refl)) (λ k y at. h (suc k) y at)

long_case : (all : List ℕ) (o : Option ℕ) (w : ℕ) → length (bound_set all o w) ≡ length all
long_case all None w = refl
long_case all (Some k) w = long_set all k w

here_case : (all : List ℕ) (o : Option ℕ) (w t v : ℕ) → o ≡ Some t → w ≡ v → t < length all → slice_get (bound_set all o w) t ≡ Some v
here_case all None w t v is same lt = absurd cc
here_case all (Some k) w t v is same lt =
    let at : k ≡ t = cc in
    ap (λ j. slice_get (slice_set all j w) t) at ∙ set_here all t w lt ∙ ap Some same

set_so : (zs : List (Option ℕ × ℕ)) (all : List ℕ) (t v k : ℕ) (z : Option ℕ × ℕ) → t < length all → slice_get zs k ≡ Some z → z.0 ≡ Some t → ((i : ℕ) (y : Option ℕ × ℕ) → slice_get zs i ≡ Some y → Bound t v y) → slice_get (bounds_set all zs) t ≡ Some v
set_so [] all t v k z lt at is h = absurd cc
set_so (y ∷ zs) all t v zero z lt at is h =
    let same : y ≡ z = cc in
    let own : y.0 ≡ Some t = ap (λ (x : Option ℕ × ℕ). x.0) same ∙ is in
    stays zs (bound_set all y.0 y.1) t v (here_case all y.0 y.1 t v own (h 0 y refl own) lt) (λ i x a. h (suc i) x a)
set_so (y ∷ zs) all t v (suc k) z lt at is h =
    let long = long_case all y.0 y.1 in
    set_so zs (bound_set all y.0 y.1) t v k z (omega (arith, lt, long)) at is (λ i x a. h (suc i) x a)

-- ---- the bounds of tests

zip_at : (ns : List (Option ℕ)) (bounds : List ℕ) (k : ℕ) (z : Option ℕ × ℕ) → slice_get (zip ns bounds) k ≡ Some z → (slice_get ns k ≡ Some z.0) × (slice_index bounds k ≡ z.1) × (k < length bounds)
zip_at [] bounds k z e = absurd cc
zip_at (n ∷ ns) [] k z e = absurd cc
zip_at (n ∷ ns) (b ∷ bounds) zero z e = let same : (n, b) ≡ z = cc in (ap (λ (x : Option ℕ × ℕ). Some x.0) same, ap (λ (x : Option ℕ × ℕ). x.1) same, omega arith)
zip_at (n ∷ ns) (b ∷ bounds) (suc k) z e = let more = zip_at ns bounds k z e in (more.0, more.1, let lt = more.2 in omega (arith, lt))

at_zip : (ns : List (Option ℕ)) (bounds : List ℕ) (k : ℕ) (o : Option ℕ) → length bounds ≡ length ns → slice_get ns k ≡ Some o → slice_get (zip ns bounds) k ≡ Some (o, slice_index bounds k)
at_zip [] bounds k o long e = absurd cc
at_zip (n ∷ ns) [] k o long e = absurd (omega (arith, long))
at_zip (n ∷ ns) (b ∷ bounds) zero o long e = let same : n ≡ o = cc in ap (λ x. Some (x, b)) same
at_zip (n ∷ ns) (b ∷ bounds) (suc k) o long e = at_zip ns bounds k o (omega (arith, long)) e

long_replicate : (n v : ℕ) → length (replicate n v) ≡ n
long_replicate zero v = refl
long_replicate (suc n) v = ap suc (long_replicate n v)

module _ (n : Indexed) (tests : List Test) (bounds : List ℕ) (long : length bounds ≡ length tests) (named : AreByName tests bounds) where
  number_at : (k t : ℕ) → k < length tests → slice_get (map (λ (t : Test). test_number n t.class t.method) tests) k ≡ Some (Some t) → TestAt n (test_at tests k).class (test_at tests k).method t
  number_at k t lt e =
      let both : Some (test_number n (test_at tests k).class (test_at tests k).method) ≡ Some (Some t) = sym (get_mapped (λ (t : Test). test_number n t.class t.method) tests k no_test lt) ∙ e in
      let is : test_number n (test_at tests k).class (test_at tests k).method ≡ Some t = cc in
      numbered_test n (test_at tests k).class (test_at tests k).method t is

  -- Tests of one number have one bound.
  one_bound : (i k t : ℕ) → i < length tests → k < length tests → slice_get (map (λ (t : Test). test_number n t.class t.method) tests) i ≡ Some (Some t) → slice_get (map (λ (t : Test). test_number n t.class t.method) tests) k ≡ Some (Some t) → slice_index bounds i ≡ slice_index bounds k
  one_bound i k t li lk ei ek =
      let a = number_at i t li ei in
      let b = number_at k t lk ek in
      let classes : a.c ≡ b.c = sym (a.pair.stands (0, 0)) ∙ b.pair.stands (0, 0) in
      let methods : a.m ≡ b.m = sym (a.pair.second (0, 0)) ∙ b.pair.second (0, 0) in
      named i k li lk
      (name_is n.history.texts (test_at tests i).class (test_at tests k).class a.c a.class_is (b.class_is ∙ ap Some (sym classes)))
      (name_is n.history.texts (test_at tests i).method (test_at tests k).method a.m a.method_is (b.method_is ∙ ap Some (sym methods)))

  pub bounds_so : (k t : ℕ) → k < length tests → slice_get (map (λ (t : Test). test_number n t.class t.method) tests) k ≡ Some (Some t)
      → slice_get (bounds_set (replicate (length n.tests) 0) (zip (map (λ (t : Test). test_number n t.class t.method) tests) bounds)) t ≡ Some (slice_index bounds k)
  bounds_so k t lt e =
      let ns = map (λ (t : Test). test_number n t.class t.method) tests in
      let long_ns = long_map (λ (t : Test). test_number n t.class t.method) tests in
      let long_all = long_replicate (length n.tests) 0 in
      let within = (number_at k t lt e).pair.within in
      set_so (zip ns bounds) (replicate (length n.tests) 0) t (slice_index bounds k) k (Some t, slice_index bounds k)
      (omega (arith, within, long_all))
      (at_zip ns bounds k (Some t) (omega (arith, long, long_ns)) e)
      refl
      (λ i y at is.
      let z = zip_at ns bounds i y at in
      let li = z.2 in
      sym z.1 ∙ one_bound i k t (omega (arith, li, long)) lt (z.0 ∙ ap Some is) e)

-- ---- one more set

set_next : (zs : List (Option ℕ × ℕ)) (all : List ℕ) (k : ℕ) (o : Option ℕ) (v : ℕ) → slice_get zs k ≡ Some (o, v) → bounds_set all (take (suc k) zs) ≡ bound_set (bounds_set all (take k zs)) o v
set_next [] all k o v e = absurd cc
set_next (z ∷ zs) all zero o v e = let same : z ≡ (o, v) = cc in ap (λ (y : Option ℕ × ℕ). bound_set all y.0 y.1) same
set_next (z ∷ zs) all (suc k) o v e = set_next zs (bound_set all z.0 z.1) k o v e

pub one_set : (ns : List (Option ℕ)) (bounds all : List ℕ) (k : ℕ) (o : Option ℕ) → length bounds ≡ length ns → slice_get ns k ≡ Some o → bound_set (bounds_set all (take k (zip ns bounds))) o (slice_index bounds k) ≡ bounds_set all (take (k + 1) (zip ns bounds))
one_set ns bounds all k o long e =
    let one : k + 1 ≡ suc k = omega arith in
    sym (ap (λ n. bounds_set all (take n (zip ns bounds))) one ∙ set_next (zip ns bounds) all k o (slice_index bounds k) (at_zip ns bounds k o long e))

long_zip : (ns : List (Option ℕ)) (bounds : List ℕ) → length bounds ≡ length ns → length (zip ns bounds) ≡ length ns
long_zip [] bounds long = refl
long_zip (n ∷ ns) [] long = absurd (omega (arith, long))
long_zip (n ∷ ns) (b ∷ bounds) long = ap suc (long_zip ns bounds (omega (arith, long)))

pub all_set : (ns : List (Option ℕ)) (bounds all : List ℕ) (k : ℕ) → length bounds ≡ length ns → length ns ≤ k → bounds_set all (take k (zip ns bounds)) ≡ bounds_set all (zip ns bounds)
all_set ns bounds all k long le =
    let same = long_zip ns bounds long in
    ap (bounds_set all) (take_whole (zip ns bounds) k (omega (arith, le, same)))

-- ---- in a history

pub are_in : (p : List Info) (tests : List Test) (limits : Limits) (bounds : List ℕ) (h : InHistory) (all : List ℕ) (s : List (Option ℕ)) → length bounds ≡ length tests → AreByName tests bounds → h.numbers ≡ map (λ (t : Test). test_number h.index.now t.class t.method) tests → all ≡ bounds_set (replicate (length h.index.now.tests) 0) (zip h.numbers bounds) → AreStandings h.index.now.history (look p) (held_by p) s → IsLookout h.index.now (question_of limits all) s h.lookout → AreInHistory p tests limits bounds h
are_in p tests limits bounds h all s long named numbers all_is stand lookout = record {
  numbers = numbers;
  question = question_of limits all;
  standings = s;
  limits_are = refl;
  bounds_are = λ k t lt e.
      ap (λ l. slice_get l t) (all_is ∙ ap (λ ns. bounds_set (replicate (length h.index.now.tests) 0) (zip ns bounds)) numbers)
      ∙ bounds_so h.index.now tests bounds long named k t lt (ap (λ ns. slice_get ns k) (sym numbers) ∙ e);
  stand = stand;
  lookout = lookout;
}
