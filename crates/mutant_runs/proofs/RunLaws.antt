-- The runs of the tests of some numbers on a mutant, and their steps.
use Rattle.std.proofs.Common.{◌≡◌, ◌∙◌, sym, refl, ap, ap₂, subst, ℕ, zero, suc, ◌+◌, ◌*◌, ◌<◌, ◌≤◌, Bool, ◌||◌, List, [], ◌∷◌, ◌++◌, map, length, drop, zip, get_or, All, Option, None, Some, slice_get, arith}
use Rattle.std.specs.Prelude.{if◌then◌else◌, is_none}
use Rattle.std.specs.List.{list_any}
use Rattle.std.specs.Option.{option_map_or}
use Rattle.std.proofs.lemmas.List.{drop_more}
use Rattle.std.proofs.lemmas.List.Sums.{sum_by-cons}
use Rattle.machine_rules.specs.declared.machine.Limits.{Limits}
use Rattle.program_rules.specs.Programs.{Look}
use Rattle.machine_rules.specs.State.{World, MachineState, start}
use Rattle.machine_rules.specs.Steps.{Stepped, Next, Ended, Stuck, step_of}
use Rattle.machine_rules.specs.Runs.{Ran, then_run, limit_of, run_from, run_of}
use Rattle.class_link.specs.Info.{Info}
use Rattle.class_table.specs.declared.scripted.Test.{Test}
use Rattle.jvm_world.specs.View.{named, test_of}
use Rattle.jvm_run.specs.Result.{pairs_of, IsResultOf}
use Rattle.jvm_run.specs.declared.result.RunResult.{RunResult}
use Rattle.mutator_ops.specs.declared.mutant.Mutant.{Mutant}
use Rattle.mutator_ops.specs.declared.mutant.State.{State}
use Rattle.mutant_runs.specs.Needed.{up_to_detecting, picked, runs_picked, steps_picked}
use Rattle.mutant_runs.specs.Runs.{Timed, mutant_run, timed, steps_in, is_at, reaches, detected, most_steps}

-- ---- the steps of a run

then_most : (d : Stepped) (n left : ℕ) (go : MachineState → Ran) (w : World) → ((t : MachineState) → (go t).steps ≤ suc n + left) → (then_run d n go w).steps ≤ n + suc left
then_most (Next t) n left go w h = let le = h t in omega (arith, le)
then_most (Ended o) n left go w h = omega arith
then_most (Stuck place) n left go w h = omega arith

run_most : (p : Look) (q : Limits) (left : ℕ) (s : MachineState) (n : ℕ) → (run_from p q left s n).steps ≤ n + left
run_most p q zero s n = omega arith
run_most p q (suc left) s n = then_most (step_of p q s) n left (λ t. run_from p q left t (suc n)) s.world (λ t. run_most p q left t (suc n))

of_most : (p : Look) (q : Limits) (t : Test) (limit : ℕ) → (run_of p (test_of t) q limit).steps ≤ limit
of_most p q t limit = let most = run_most p q limit (start p (test_of t)) 0 in omega (arith, most)

limit_most : (n : ℕ) → n ≤ most_steps → limit_of n ≤ 12600000
limit_most n h = omega (arith, h)

pub mutant_most : (q : Limits) (p : Look) (t : Test) (n : ℕ) → n ≤ most_steps → (mutant_run q p t n).steps ≤ 12600000
unfolding mutant_run
mutant_most q p t n h = let run = of_most p q t (limit_of n) in let limit = limit_most n h in omega (arith, run, limit)

-- ---- what a run says

-- A run of so many steps is the mutant's run, where this is its limit.
pub of_run : (q : Limits) (p : Look) (t : Test) (n limit : ℕ) → limit ≡ limit_of n → run_of p (test_of t) q limit ≡ mutant_run q p t n
unfolding mutant_run
of_run q p t n limit e = ap (run_of p (test_of t) q) e

any_map : {A B : Type 0} (test : B → Bool) (f : A → B) (xs : List A) → list_any (λ x. test (f x)) xs ≡ list_any test (map f xs)
any_map test f [] = refl
any_map test f (x ∷ xs) = ap (λ b. test (f x) || b) (any_map test f xs)

pub run_reaches : (p : List Info) (m : Mutant) (r : RunResult) (ran : Ran) → IsResultOf p r ran → list_any (λ pair. is_at m (named p (pair.0.0, pair.1))) r.reached ≡ reaches m ran
run_reaches p m r ran h =
    any_map (λ x. is_at m (named p x)) (λ x. (x.0.0, x.1)) r.reached
    ∙ any_map (is_at m) (named p) (pairs_of r)
    ∙ ap (list_any (is_at m)) h.reached

-- ---- the tests of some numbers

zip_at : {A B : Type 0} (xs : List A) (ys : List B) (k : ℕ) (x : A) (y : B) → k < length xs → length ys ≡ length xs → slice_get (zip xs ys) k ≡ Some (get_or xs k x, get_or ys k y)
zip_at [] ys k x y lt same = absurd (omega (arith, lt))
zip_at (a ∷ xs) [] k x y lt same = absurd (omega (arith, same))
zip_at (a ∷ xs) (b ∷ ys) zero x y lt same = refl
zip_at (a ∷ xs) (b ∷ ys) (suc k) x y lt same = zip_at xs ys k x y (omega (arith, lt)) (omega (arith, same))

pub zip_all : {A B : Type 0} (P : B → Type 0) (xs : List A) (ys : List B) (k : ℕ) (both : A × B) → All P ys → slice_get (zip xs ys) k ≡ Some both → P both.1
zip_all P [] ys k both h at = absurd cc
zip_all P (a ∷ xs) [] k both h at = absurd cc
zip_all P (a ∷ xs) (b ∷ ys) zero both h at = let same : b ≡ both.1 = cc in subst P same (h 0 b (omega arith))
zip_all P (a ∷ xs) (b ∷ ys) (suc k) both h at = zip_all P xs ys k both (λ j d lt. h (suc j) d (omega (arith, lt))) at

module _ (q : Limits) (p : Look) (ts : List Test) (ns : List ℕ) where
  abbrev run_timed : ℕ × Timed → ℕ × Ran
  run_timed t = (t.0, mutant_run q p t.1.0 t.1.1)

  -- The run of the first of them, and those of the others.
  runs_first : (k : ℕ) (ks : List ℕ) (t : Test) (n : ℕ) → k < length ts → length ns ≡ length ts → t ≡ get_or ts k t → n ≡ get_or ns k 0
      → runs_picked q p (timed ts ns) (k ∷ ks) ≡ (k, mutant_run q p t n) ∷ runs_picked q p (timed ts ns) ks
  runs_first k ks t n lt same at-t at-n =
      ap (λ o. map run_timed (option_map_or (λ t. (k, t) ∷ []) o [] ++ picked (timed ts ns) ks)) (zip_at ts ns k t 0 lt same)
      ∙ ap₂ (λ u j. (k, mutant_run q p u j) ∷ runs_picked q p (timed ts ns) ks) (sym at-t) (sym at-n)

  -- The same of those that are left.
  pub runs_at : (ks : List ℕ) (i k : ℕ) (t : Test) (n : ℕ) → i < length ks → k ≡ get_or ks i 0 → All (λ j. j < length ts) ks → length ns ≡ length ts → t ≡ get_or ts k t → n ≡ get_or ns k 0
      → runs_picked q p (timed ts ns) (drop i ks) ≡ (k, mutant_run q p t n) ∷ runs_picked q p (timed ts ns) (drop (i + 1) ks)
  runs_at ks i k t n lt is below same at-t at-n =
      ap (runs_picked q p (timed ts ns)) (drop_more ks i 0 lt ∙ ap (λ j. j ∷ drop (i + 1) ks) (sym is))
      ∙ runs_first k (drop (i + 1) ks) t n (subst (λ j. j < length ts) (sym is) (below i 0 lt)) same at-t at-n

-- ---- up to the first that detects

steps_first : (r : Ran) (runs : List Ran) → steps_in (r ∷ runs) ≡ r.steps + steps_in runs
steps_first r runs = sum_by-cons (λ (x : Ran). x.steps) r runs

-- The steps of a run and of those behind it that are run then.
pub steps_to : (r : Ran) (runs : List Ran) (o : Option State) → detected r.ending ≡ o → steps_in (up_to_detecting (r ∷ runs)) ≡ r.steps + (if is_none o then steps_in (up_to_detecting runs) else 0)
steps_to r runs None is = steps_first r (if is_none (detected r.ending) then up_to_detecting runs else []) ∙ ap (λ o. r.steps + steps_in (if is_none o then up_to_detecting runs else [])) is
steps_to r runs (Some s) is = steps_first r (if is_none (detected r.ending) then up_to_detecting runs else []) ∙ ap (λ o. r.steps + steps_in (if is_none o then up_to_detecting runs else [])) is

steps_more : (r : Ran) (runs : List Ran) (o : Option State) → detected r.ending ≡ o → steps_in (up_to_detecting (r ∷ runs)) ≤ r.steps + steps_in (up_to_detecting runs)
steps_more r runs None is = let all = steps_to r runs None is in omega (arith, all)
steps_more r runs (Some s) is = let all = steps_to r runs (Some s) is in omega (arith, all)

runs_most : (q : Limits) (p : Look) (ts : List Test) (ns : List ℕ) (ks : List ℕ) → All (λ n. n ≤ most_steps) ns → steps_picked (runs_picked q p (timed ts ns) ks) ≤ length ks * 12600000
runs_most q p ts ns [] h = omega arith
runs_most q p ts ns (k ∷ ks) h = by (slice_get (timed ts ns) k) refl (runs_most q p ts ns ks h)
  where
    by : (o : Option Timed) → slice_get (timed ts ns) k ≡ o → steps_picked (runs_picked q p (timed ts ns) ks) ≤ length ks * 12600000
        → steps_picked (map (run_timed q p ts ns) (option_map_or (λ t. (k, t) ∷ []) o [] ++ picked (timed ts ns) ks)) ≤ suc (length ks) * 12600000
    by None at rest = omega (arith, rest)
    by (Some t) at rest =
        let run : Ran = mutant_run q p t.0 t.1 in
        let first = mutant_most q p t.0 t.1 (zip_all (λ n. n ≤ most_steps) ts ns k t h at) in
        let sum = steps_more run (map (λ (r : ℕ × Ran). r.1) (runs_picked q p (timed ts ns) ks)) (detected run.ending) refl in
        omega (arith, first, rest, sum)

-- The steps of the runs of 65,535 tests at most.
pub all_runs_most : (q : Limits) (p : Look) (ts : List Test) (ns : List ℕ) (ks : List ℕ) → length ks ≤ 65535 → All (λ n. n ≤ most_steps) ns → steps_picked (runs_picked q p (timed ts ns) ks) ≤ 825741000000
all_runs_most q p ts ns ks few h = let most = runs_most q p ts ns ks h in omega (arith, few, most)
