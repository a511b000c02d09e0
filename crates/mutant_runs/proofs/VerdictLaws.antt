-- The first run that detects a mutant, by the runs one after the other.
use Rattle.std.proofs.Common.{◌≡◌, ◌∙◌, sym, refl, ap, ℕ, ◌+◌, ◌≤◌, List, [], ◌∷◌, map, Option, None, Some, arith}
use Rattle.std.specs.Prelude.{if◌then◌else◌, is_none}
use Rattle.std.specs.Option.{option_map, option_or}
use Rattle.machine_rules.specs.Runs.{Ran}
use Rattle.mutator_ops.specs.declared.mutant.State.{State}
use Rattle.mutant_runs.specs.Needed.{steps_picked}
use Rattle.mutant_runs.specs.Runs.{detected}
use Rattle.mutant_runs.specs.Verdicts.{killer}
use Rattle.mutant_runs.proofs.RunLaws.{steps_to}

-- No run so far detects: what the runs that are left say is what all say, and with their steps all
-- are counted.
pub record SoFar (runs left : List (ℕ × Ran)) (part start : ℕ) : Type 0 where
  pub kills : killer left ≡ killer runs
  pub steps : part + steps_picked left ≡ start + steps_picked runs

pub at_start : (runs : List (ℕ × Ran)) (part : ℕ) → SoFar runs runs part part
at_start runs part = record { kills = refl; steps = refl }

module _ (runs left rest : List (ℕ × Ran)) (k : ℕ) (r : Ran) (part start : ℕ) (at : left ≡ (k, r) ∷ rest) (so_far : SoFar runs left part start) where
  left_steps : (o : Option State) → detected r.ending ≡ o → steps_picked left ≡ r.steps + (if is_none o then steps_picked rest else 0)
  left_steps o is = ap steps_picked at ∙ steps_to r (map (λ (x : ℕ × Ran). x.1) rest) o is

  left_kills : (o : Option State) → detected r.ending ≡ o → killer runs ≡ option_or (option_map (λ s. (k, s)) o) (killer rest)
  left_kills o is = sym so_far.kills ∙ ap killer at ∙ ap (λ s. option_or (option_map (λ s. (k, s)) s) (killer rest)) is

  -- One run more that doesn't detect.
  pub one_more : (next : ℕ) → None ≡ detected r.ending → next ≡ part + r.steps → SoFar runs rest next start
  one_more next none counted = record {
    kills = sym (left_kills None (sym none));
    steps = (let left = left_steps None (sym none) in let whole = so_far.steps in omega (arith, left, whole, counted));
  }

  -- The first that does.
  pub found : (s : State) → Some s ≡ detected r.ending → Some (k, s) ≡ killer runs
  found s is = sym (left_kills (Some s) (sym is))

  pub found_steps : (next : ℕ) (s : State) → Some s ≡ detected r.ending → next ≡ part + r.steps → next ≡ start + steps_picked runs
  found_steps next s is counted = let left = left_steps (Some s) (sym is) in let whole = so_far.steps in omega (arith, left, whole, counted)

  -- No more steps are counted than all have.
  pub most_so_far : (next : ℕ) → next ≤ part + r.steps → next ≤ start + steps_picked runs
  most_so_far next le = let left = left_steps (detected r.ending) refl in let whole = so_far.steps in omega (arith, left, whole, le)

pub none_found : (runs left : List (ℕ × Ran)) (part start : ℕ) → left ≡ [] → SoFar runs left part start → None ≡ killer runs
none_found runs left part start none so_far = sym (ap killer none) ∙ so_far.kills

pub steps_at_end : (runs left : List (ℕ × Ran)) (part start : ℕ) → left ≡ [] → SoFar runs left part start → part ≡ start + steps_picked runs
steps_at_end runs left part start none so_far = let nothing : steps_picked left ≡ 0 = ap steps_picked none in let whole = so_far.steps in omega (arith, nothing, whole)
