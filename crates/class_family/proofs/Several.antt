-- What stands above any of several classes is found by one walk.
use Rattle.std.proofs.Common.{◌≡◌, ◌∙◌, sym, refl, ap, subst, ℕ, zero, suc, ◌+◌, ◌≤◌, Bool, true, false, List, [], ◌∷◌, ◌++◌, map, length, take, Some, slice_get, arith}
use Rattle.std.specs.Prelude.{◌||◌, if◌then◌else◌}
use Rattle.std.specs.List.{list_any}
use Rattle.program_rules.specs.Names.{Name, same, is_listed}
use Rattle.program_rules.specs.Programs.{Searching, Beginning, nodes}
use Rattle.class_link.specs.Info.{Info}
use Rattle.class_table.specs.Table.{look, name_at, IsProgram}
use Rattle.class_family.specs.declared.seen.Seen.{Seen}
use Rattle.class_family.specs.declared.tasks.Task.{Task}
use Rattle.class_family.specs.Above.{is_above, AreWithin, AreAbove}
use Rattle.class_family.specs.Once.{each_once}
use Rattle.class_family.specs.Families.{names_in, AreAcross}
use Rattle.class_family.specs.Walks.{walks, enters_of, wanted, add_in, AreTasks, names_of, IsSeen, AddsSteps, AddsInterfaces, EntersAbove}
use Rattle.class_family.proofs.Pushing.{enters_both}
use Rattle.class_family.proofs.Levels.{concat_both, map_both}
use Rattle.class_family.proofs.Onces.{add_all}
use Rattle.class_family.proofs.Numbered.{among_named}
use Rattle.class_family.proofs.Walking.{wanted_enters, enters_tasks}
use Rattle.class_family.proofs.Above.{once_listed, steps_above}

pub listed_both : (m : Name) (xs ys : List Name) → is_listed m (xs ++ ys) ≡ (is_listed m xs || is_listed m ys)
listed_both m [] ys = refl
listed_both m (x ∷ xs) ys = by_test (same x m) (listed_both m xs ys)
  where
    by_test : (b : Bool) → is_listed m (xs ++ ys) ≡ (is_listed m xs || is_listed m ys) → (b || is_listed m (xs ++ ys)) ≡ ((b || is_listed m xs) || is_listed m ys)
    by_test true rest = refl
    by_test false rest = rest

pub any_end : (f : ℕ → Bool) (xs : List ℕ) (a : ℕ) → list_any f (xs ++ a ∷ []) ≡ (f a || list_any f xs)
any_end f [] a = refl
any_end f (x ∷ xs) a = by_tests (f x) (f a) (any_end f xs a)
  where
    by_tests : (b t : Bool) → list_any f (xs ++ a ∷ []) ≡ (t || list_any f xs) → (b || list_any f (xs ++ a ∷ [])) ≡ (t || (b || list_any f xs))
    by_tests true true rest = refl
    by_tests true false rest = refl
    by_tests false t rest = rest

pub taken_next : (xs : List ℕ) (i a : ℕ) → slice_get xs i ≡ Some a → take (suc i) xs ≡ take i xs ++ a ∷ []
taken_next [] i a e = absurd cc
taken_next (x ∷ xs) zero a e = let s : x ≡ a = cc in ap (λ y. y ∷ []) s
taken_next (x ∷ xs) (suc i) a e = ap (λ l. x ∷ l) (taken_next xs i a e)

pub taken_all : (xs : List ℕ) (i : ℕ) → length xs ≤ i → take i xs ≡ xs
taken_all [] zero le = refl
taken_all [] (suc i) le = refl
taken_all (x ∷ xs) zero le = absurd (omega (arith, le))
taken_all (x ∷ xs) (suc i) le = ap (λ l. x ∷ l) (taken_all xs i (omega (arith, le)))

either_within : (p : List Info) (xs ys : List ℕ) → AreWithin p xs → AreWithin p ys → AreWithin p (xs ++ ys)
either_within p [] ys h g k b e = g k b e
either_within p (x ∷ xs) ys h g zero b e = h 0 b e
either_within p (x ∷ xs) ys h g (suc k) b e = either_within p xs ys (λ j c l. h (suc j) c l) g k b e

module _ (p : List Info) (ok : IsProgram p) where
  pub no_task : EntersAbove p [] []
  no_task = record { over = []; tasks = refl; within = λ k b e. absurd cc; above = λ m. refl }

  -- the supers of one more class are entered
  pub more_tasks : (ids : List ℕ) (a : ℕ) (old new : List Task) → EntersAbove p ids old → AddsSteps Searching p a old new → EntersAbove p (ids ++ a ∷ []) new
  more_tasks ids a old new h adds = record {
    over = adds.over ++ h.over;
    tasks = adds.tasks ∙ ap (λ l. l ++ enters_of adds.over) h.tasks ∙ sym (enters_both adds.over h.over);
    within = either_within p adds.over h.over adds.within h.within;
    above = λ m.
        ap (is_listed m) (ap (walks Searching p) (map_both (name_at p) adds.over h.over) ∙ concat_both (λ n. names_in (nodes Searching (look p) n)) (map (name_at p) adds.over) (map (name_at p) h.over))
        ∙ listed_both m (walks Searching p (map (name_at p) adds.over)) (walks Searching p (map (name_at p) h.over))
        ∙ ap (λ b. b || is_listed m (walks Searching p (map (name_at p) h.over))) (ap (λ l. is_listed m (walks Searching p l)) adds.named ∙ steps_above (look p) ok.ranks (name_at p a) m)
        ∙ ap (λ b. is_above (look p) (name_at p a) m || b) (h.above m)
        ∙ sym (any_end (λ b. is_above (look p) (name_at p b) m) ids a);
  }

  pub next_tasks : (ids : List ℕ) (i j a : ℕ) (old new : List Task) → j ≡ i + 1 → slice_get ids i ≡ Some a → EntersAbove p (take i ids) old → AddsSteps Searching p a old new → EntersAbove p (take j ids) new
  next_tasks ids i j a old new next there h adds =
      let e : suc i ≡ j = omega (arith, next) in
      subst (λ k. EntersAbove p (take k ids) new) e (subst (λ l. EntersAbove p l new) (sym (taken_next ids i a there)) (more_tasks (take i ids) a old new h adds))

  pub all_tasks : (ids : List ℕ) (i : ℕ) (ts : List Task) → length ids ≤ i → EntersAbove p (take i ids) ts → EntersAbove p ids ts
  all_tasks ids i ts le h = subst (λ l. EntersAbove p l ts) (taken_all ids i le) h

  pub tasks_entered : (ids : List ℕ) (ts : List Task) (ns : List Name) → EntersAbove p ids ts → AreTasks Searching p ns ts
  tasks_entered ids ts ns h = subst (AreTasks Searching p ns) (sym h.tasks) (enters_tasks Searching p h.over ns h.within)

  pub above_found : (ids : List ℕ) (ts : List Task) (old new : Seen) → EntersAbove p ids ts → old.found ≡ [] → names_of p new ≡ add_in (wanted Searching p ts) (names_of p old) → IsSeen Searching p new → AreAbove p ids new.found
  above_found ids ts old new h none names seen = record {
    within = seen.within;
    above = λ c lt.
        among_named p c new.found ok.distinct lt seen.within
        ∙ ap (is_listed (name_at p c)) (names ∙ ap (λ l. add_in (wanted Searching p ts) (map (name_at p) l)) none ∙ add_all (wanted Searching p ts) ∙ ap (λ l. each_once (wanted Searching p l)) h.tasks ∙ ap each_once (wanted_enters Searching p h.over))
        ∙ once_listed (name_at p c) (walks Searching p (map (name_at p) h.over))
        ∙ h.above (name_at p c);
  }

-- ---- the interfaces of a class

module _ (p : List Info) where
  entered_across : (a : ℕ) (old ts : List Task) (h : AddsInterfaces p a old ts) → old ≡ [] → ts ≡ enters_of h.over
  entered_across a old ts h none = h.tasks ∙ ap (λ l. l ++ enters_of h.over) none

  pub across_tasks : (a : ℕ) (old ts : List Task) (ns : List Name) → AddsInterfaces p a old ts → old ≡ [] → AreTasks Beginning p ns ts
  across_tasks a old ts ns h none =
      subst (AreTasks Beginning p ns) (sym (entered_across a old ts h none)) (enters_tasks Beginning p h.over ns h.within)

  pub across_found : (a : ℕ) (before ts : List Task) (old new : Seen) → AddsInterfaces p a before ts → before ≡ [] → old.found ≡ [] → names_of p new ≡ add_in (wanted Beginning p ts) (names_of p old) → IsSeen Beginning p new → AreAcross p a new.found
  across_found a before ts old new h none empty names seen = record {
    named = names ∙ ap (λ l. add_in (wanted Beginning p ts) (map (name_at p) l)) empty ∙ add_all (wanted Beginning p ts)
        ∙ ap (λ l. each_once (wanted Beginning p l)) (entered_across a before ts h none)
        ∙ ap each_once (wanted_enters Beginning p h.over ∙ ap (walks Beginning p) h.named);
    within = seen.within;
  }
