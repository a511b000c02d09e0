-- Tests that are picked by number from those whose runs reach a line.
use Rattle.std.proofs.Common.{◌≡◌, ◌∙◌, refl, sym, ap, ℕ, zero, suc, ◌+◌, Bool, true, false, List, [], ◌∷◌, ◌++◌, map, Some, arith, cond}
use Rattle.std.specs.Prelude.{filter, flat_map, slice_get}
use Rattle.std.specs.List.{AllByRecursion, enumerate_from}
use Rattle.std.specs.Option.{option_map_or}
use Rattle.machine_rules.specs.Runs.{Ran}
use Rattle.class_table.specs.declared.scripted.Test.{Test}
use Rattle.mutator_ops.specs.declared.mutant.Mutant.{Mutant}
use Rattle.suite_program.specs.Below.{timed_at, picked}
use Rattle.suite_program.specs.Below.{Timed, timed, reaches}

module _ (reached : Test → Bool) (steps : Test → ℕ) where
  abbrev pub with_steps : ℕ × Test → ℕ × Timed
  with_steps t = (t.0, (t.1, steps t.1))

  abbrev chosen : ℕ × Test → Bool
  chosen t = reached t.1

  picked_case : (all : List Timed) (n : ℕ) (t : Test) (b : Bool) (rest : List (ℕ × Test)) → slice_get all n ≡ Some (t, steps t) → flat_map (timed_at all) (map (λ (t : ℕ × Test). t.0) rest) ≡ map with_steps rest
      → flat_map (timed_at all) (map (λ (t : ℕ × Test). t.0) (cond b ((n, t) ∷ rest) rest)) ≡ map with_steps (cond b ((n, t) ∷ rest) rest)
  picked_case all n t false rest at h = h
  picked_case all n t true rest at h =
      ap (λ o. option_map_or (λ (x : Timed). (n, x) ∷ []) o [] ++ flat_map (timed_at all) (map (λ (t : ℕ × Test). t.0) rest)) at
      ∙ ap (λ l. with_steps (n, t) ∷ l) h

  picked_from : (all : List Timed) (n : ℕ) (ts : List Test) → ((k : ℕ) (t : Test) → slice_get ts k ≡ Some t → slice_get all (n + k) ≡ Some (t, steps t))
      → picked all (map (λ (t : ℕ × Test). t.0) (filter chosen (enumerate_from n ts))) ≡ map with_steps (filter chosen (enumerate_from n ts))
  picked_from all n [] at = refl
  picked_from all n (t ∷ ts) at =
      picked_case all n t (reached t) (filter chosen (enumerate_from (n + 1) ts)) (ap (slice_get all) (omega arith) ∙ at 0 t refl)
      (picked_from all (n + 1) ts (λ k u e. ap (slice_get all) (omega arith) ∙ at (suc k) u e))

  timed_of : (ts : List Test) (k : ℕ) (t : Test) → slice_get ts k ≡ Some t → slice_get (timed ts (map steps ts)) k ≡ Some (t, steps t)
  timed_of [] k t e = absurd cc
  timed_of (u ∷ ts) zero t e = let one : u ≡ t = cc in ap (λ z. Some (z, steps z)) one
  timed_of (u ∷ ts) (suc k) t e = timed_of ts k t e

  -- The tests that are picked by the numbers of those that reach the line are these, with their
  -- steps.
  pub picked_are : (ts : List Test) → picked (timed ts (map steps ts)) (map (λ (t : ℕ × Test). t.0) (filter chosen (enumerate_from 0 ts))) ≡ map with_steps (filter chosen (enumerate_from 0 ts))
  picked_are ts = picked_from (timed ts (map steps ts)) 0 ts (λ k t e. ap (slice_get (timed ts (map steps ts))) (omega arith) ∙ timed_of ts k t e)

  module _ (run : Timed → Ran) (m : Mutant) where
    abbrev after : Test → Ran
    after t = run (t, steps t)

    runs_case : (b c : Bool) (n : ℕ) (t : Test) (rest : List (ℕ × Test)) (runs : List Ran) → b ≡ c → map (λ (t : ℕ × Test). after t.1) rest ≡ runs → map (λ (t : ℕ × Test). after t.1) (cond b ((n, t) ∷ rest) rest) ≡ cond c (after t ∷ runs) runs
    runs_case true true n t rest runs e h = ap (λ l. after t ∷ l) h
    runs_case false false n t rest runs e h = h
    runs_case true false n t rest runs e h = absurd cc
    runs_case false true n t rest runs e h = absurd cc

    -- Where the runs on a mutant reach its line as the tests do, those that do are those of these
    -- tests.
    pub runs_are : (n : ℕ) (ts : List Test) → AllByRecursion (λ t. reaches m (after t) ≡ reached t) ts
        → map (λ (t : ℕ × Test). after t.1) (filter chosen (enumerate_from n ts)) ≡ filter (reaches m) (map run (timed ts (map steps ts)))
    runs_are n [] h = refl
    runs_are n (t ∷ ts) h = runs_case (reached t) (reaches m (after t)) n t (filter chosen (enumerate_from (n + 1) ts)) (filter (reaches m) (map run (timed ts (map steps ts)))) (sym h.0) (runs_are (n + 1) ts h.1)
