-- The verdict on a mutant by the runs on the program with its edit, and the steps of these runs.
use Rattle.std.proofs.Common.{◌≡◌, ◌∙◌, sym, refl, ap, subst, Result, IfOk, OnOk, ℕ, zero, suc, ◌+◌, ◌^◌, ◌<◌, ◌≤◌, Bool, true, false, cond, List, [], ◌∷◌, filter, length, take, get_or, All, Option, None, Some, slice_set, arith}
use Rattle.std.specs.Prelude.{if◌then◌else◌, is_some, IfSome, option_and_then}
use Rattle.std.specs.List.{range_with_len}
use Rattle.std.specs.Option.{option_map_or}
use Rattle.std.proofs.lemmas.List.Elements.{All-nil, All-filter}
use Rattle.std.proofs.lemmas.List.FromFn.{get_or-range_with_len, length-range_with_len}
use Rattle.std.proofs.lemmas.List.Sums.{sum_by-le, sum_by-take-le, sum_by_more_le}
use Rattle.machine_rules.specs.declared.machine.Limits.{Limits}
use Rattle.program_rules.specs.Linked.{Linked}
use Rattle.program_rules.specs.Names.{Name}
use Rattle.program_rules.specs.Programs.{Look}
use Rattle.type_laws.specs.Faults.{FaultlessAreAccepted}
use Rattle.type_rules.specs.Faults.{Placed, class_fault}
use Rattle.type_rules.specs.Rules.{ClassAccepted}
use Rattle.class_table.specs.declared.scripted.Test.{Test}
use Rattle.class_link.specs.Info.{Info}
use Rattle.class_table.specs.Table.{number_of, look}
use Rattle.class_model.specs.declared.memory.Memory.{Memory}
use Rattle.line_coverage.specs.Coverage.{Covered, reaches, tests_at}
use Rattle.mutator_ops.specs.declared.mutant.Mutant.{Mutant}
use Rattle.mutator_ops.specs.declared.mutant.Verdict.{Verdict}
use Rattle.mutant_runs.specs.Edited.{IsReadyBut}
use Rattle.mutant_runs.specs.Needed.{runs_picked, steps_picked, verdict_picked, steps_by}
use Rattle.mutant_runs.specs.Programs.{files_of, with_accepted, viable, Makes}
use Rattle.mutant_runs.specs.Promises.{AreViable, TellsViable, covering_at, runs_in, steps_run, steps_for, steps_of, steps_for_all, IsByRuns, IsVerdict}
use Rattle.mutant_runs.specs.Ready.{IsReady}
use Rattle.mutant_runs.specs.Runs.{timed, most_steps}
use Rattle.mutant_runs.specs.Verdicts.{killer, verdict_by, not_viable}
use Rattle.mutant_runs.proofs.RunLaws.{all_runs_most}

-- ---- a mutant that is viable

no_fault : (o : Option Placed) (p : Look) → true ≡ is_some (if is_some o then None else Some p) → o ≡ None
no_fault None p h = refl
no_fault (Some f) p h = absurd cc

library_by : (p : Look) (n : Name) (o : Option Linked) → p n ≡ o → ((c : Linked) → p n ≡ Some c → c.library ≡ true → ClassAccepted p n) → IfSome o (λ c. c.library ≡ true → ClassAccepted p n)
library_by p n None is h = tt
library_by p n (Some c) is h = h c is

module _ (p ran : List Info) (m : Mutant) (id : ℕ) (class : Info) (made : Makes p m id class) (is : ran ≡ slice_set p id class) (ready : IsReadyBut ran m.class id) where
  -- The program that it is run as is the one with its class, where that is accepted.
  viable_made : viable (files_of p) (look p) m ≡ with_accepted m.class (look ran)
  viable_made = ap (option_and_then (with_accepted m.class)) made.program ∙ ap (λ w. with_accepted m.class (look w)) (sym is)

  module _ (told : TellsViable p m true) where
    faultless : class_fault (look ran) m.class ≡ None
    faultless = no_fault (class_fault (look ran) m.class) (look ran) (told ∙ ap (λ (o : Option Look). is_some o) viable_made)

    pub ready_with : FaultlessAreAccepted → IsReady ran
    ready_with accepted = ready.ready (accepted (look ran) m.class (library_by (look ran) m.class (look ran m.class) refl (ready.library m.class)) faultless)

    pub runs_as : viable (files_of p) (look p) m ≡ Some (look ran)
    runs_as = viable_made ∙ ap (λ (o : Option Placed). if is_some o then None else Some (look ran)) faultless

    module _ (q : Limits) (ts : List Test) (ns ks : List ℕ) where
      verdict_made : verdict_picked q (files_of p) (look p) (timed ts ns) ks m ≡ verdict_by ks (killer (runs_in q ran ts ns ks))
      unfolding verdict_picked
      verdict_made = ap (λ o. option_map_or (λ w. verdict_by ks (killer (runs_picked q w (timed ts ns) ks))) o not_viable) runs_as

      pub told_made : (r : Result Verdict Memory) → IfOk r (IsByRuns q ran ts ns ks) → IfOk r (IsVerdict q p ts ns ks m)
      told_made r told = let P : Verdict → Type 0 = λ x. IfOk r (λ v. v ≡ x) in subst P (sym verdict_made) told

      steps_made : steps_run q ran ts ns ks ≡ steps_for q p ts ns ks m
      unfolding steps_by
      steps_made = ap (λ o. option_map_or (λ w. steps_picked (runs_picked q w (timed ts ns) ks)) o 0) (sym runs_as)

      pub counted_made : (r : Result Verdict Memory) (part start : ℕ) → OnOk r (part ≡ start + steps_run q ran ts ns ks) → OnOk r (part ≡ start + steps_for q p ts ns ks m)
      counted_made r part start h = let P : ℕ → Type 0 = λ n. OnOk r (part ≡ start + n) in subst P steps_made h

      pub most_made : (part start : ℕ) → part ≤ start + steps_run q ran ts ns ks → part ≤ start + steps_for q p ts ns ks m
      most_made part start h = let P : ℕ → Type 0 = λ n. part ≤ start + n in subst P steps_made h

-- ---- where no test is run

none_case : (f : Look → Verdict) (o : Option Look) → false ≡ is_some o → option_map_or f o not_viable ≡ not_viable
none_case f None h = refl
none_case f (Some w) h = absurd cc

no_steps : (f : Look → ℕ) (o : Option Look) → false ≡ is_some o → option_map_or f o 0 ≡ 0
no_steps f None h = refl
no_steps f (Some w) h = absurd cc

uncovered_case : (v : Verdict) (o : Option Look) → true ≡ is_some o → option_map_or (λ w. v) o not_viable ≡ v
uncovered_case v None h = absurd cc
uncovered_case v (Some w) h = refl

same_case : (n : ℕ) (o : Option Look) → option_map_or (λ w. n) o n ≡ n
same_case n None = refl
same_case n (Some w) = refl

module _ (q : Limits) (p : List Info) (ts : List Test) (ns : List ℕ) (m : Mutant) where
  pub refused_verdict : (ks : List ℕ) → TellsViable p m false → verdict_picked q (files_of p) (look p) (timed ts ns) ks m ≡ not_viable
  unfolding verdict_picked
  refused_verdict ks told = none_case (λ w. verdict_by ks (killer (runs_picked q w (timed ts ns) ks))) (viable (files_of p) (look p) m) told

  pub refused_steps : (ks : List ℕ) → TellsViable p m false → steps_by q (files_of p) (look p) (timed ts ns) ks m ≡ 0
  unfolding steps_by
  refused_steps ks told = no_steps (λ w. steps_picked (runs_picked q w (timed ts ns) ks)) (viable (files_of p) (look p) m) told

  pub uncovered_verdict : (ks : List ℕ) → ks ≡ [] → TellsViable p m true → verdict_by ks None ≡ verdict_picked q (files_of p) (look p) (timed ts ns) ks m
  unfolding verdict_picked
  uncovered_verdict ks none told =
      ap (λ js. verdict_by js None) none
      ∙ sym (uncovered_case (verdict_by [] None) (viable (files_of p) (look p) m) told)
      ∙ ap (λ js. option_map_or (λ w. verdict_by js (killer (runs_picked q w (timed ts ns) js))) (viable (files_of p) (look p) m) not_viable) (sym none)

  pub uncovered_steps : (ks : List ℕ) → ks ≡ [] → steps_by q (files_of p) (look p) (timed ts ns) ks m ≡ 0
  unfolding steps_by
  uncovered_steps ks none =
      ap (λ js. option_map_or (λ w. steps_picked (runs_picked q w (timed ts ns) js)) (viable (files_of p) (look p) m) 0) none
      ∙ same_case 0 (viable (files_of p) (look p) m)

-- ---- the covering tests

below_range : (n : ℕ) → All (λ k. k < n) (range_with_len 0 n)
below_range n j d lt = let long = length-range_with_len 0 n in let at = get_or-range_with_len 0 n j d (omega (arith, lt, long)) in omega (arith, lt, long, at)

filter_few : (f : ℕ → Bool) (xs : List ℕ) → length (filter f xs) ≤ length xs
filter_few f [] = omega arith
filter_few f (x ∷ xs) = by (f x) (filter_few f xs)
  where
    by : (b : Bool) → length (filter f xs) ≤ length xs → length (cond b (x ∷ filter f xs) (filter f xs)) ≤ suc (length xs)
    by true le = omega (arith, le)
    by false le = omega (arith, le)

module _ (cover : Covered) (m : Mutant) where
  below_at : (o : Option ℕ) → All (λ k. k < cover.tests) (option_map_or (λ id. tests_at cover id m.line) o [])
  below_at None = All-nil (λ k. k < cover.tests)
  below_at (Some id) = All-filter (reaches cover id m.line) (λ k. k < cover.tests) (range_with_len 0 cover.tests) (below_range cover.tests)

  few_at : (o : Option ℕ) → length (option_map_or (λ id. tests_at cover id m.line) o []) ≤ cover.tests
  few_at None = omega arith
  few_at (Some id) =
      let few = filter_few (reaches cover id m.line) (range_with_len 0 cover.tests) in
      let long = length-range_with_len 0 cover.tests in
      omega (arith, few, long)

  pub covering_below : (p : List Info) (n : ℕ) → cover.tests ≡ n → All (λ k. k < n) (covering_at p cover m)
  covering_below p n same = let P : ℕ → Type 0 = λ n. All (λ k. k < n) (covering_at p cover m) in subst P same (below_at (number_of p m.class))

  pub covering_few : (p : List Info) (n : ℕ) → cover.tests ≡ n → length (covering_at p cover m) ≤ n
  covering_few p n same = let few = few_at (number_of p m.class) in omega (arith, few, same)

-- ---- all mutants

pub viable_at : (p : List Info) (ms : List Mutant) (bs : List Bool) (i : ℕ) (m : Mutant) (b : Bool) → i < length ms → m ≡ get_or ms i m → b ≡ get_or bs i b → AreViable p ms bs → TellsViable p m b
viable_at p [] bs i m b lt at-m at-b told = absurd (omega (arith, lt))
viable_at p (x ∷ ms) [] i m b lt at-m at-b told = absurd cc
viable_at p (x ∷ ms) (y ∷ bs) zero m b lt at-m at-b told =
    let here : y ≡ is_some (viable (files_of p) (look p) x) = cc in
    at-b ∙ here ∙ ap (λ m. is_some (viable (files_of p) (look p) m)) (sym at-m)
viable_at p (x ∷ ms) (y ∷ bs) (suc i) m b lt at-m at-b told =
    let rest : AreViable p ms bs = cc in
    viable_at p ms bs i m b (omega (arith, lt)) at-m at-b rest

module _ (q : Limits) (p : List Info) (ts : List Test) (ns : List ℕ) (cover : Covered) (few : length ts ≤ 65535) (h : All (λ n. n ≤ most_steps) ns) (covered : cover.tests ≡ length ts) where
  most_case : (ks : List ℕ) → length ks ≤ 65535 → (o : Option Look) → option_map_or (λ w. steps_picked (runs_picked q w (timed ts ns) ks)) o 0 ≤ 825741000000
  most_case ks some None = omega arith
  most_case ks some (Some w) = all_runs_most q w ts ns ks some h

  steps_most : (m : Mutant) → steps_of q p ts ns cover m ≤ 825741000000
  unfolding steps_by
  steps_most m = most_case (covering_at p cover m) (let some = covering_few cover m p (length ts) covered in omega (arith, some, few)) (viable (files_of p) (look p) m)

  -- The steps of the runs on the first mutants leave room for more.
  pub room_left : (mutants : List Mutant) (i part start : ℕ) → length mutants ≤ 262144 → start < 2 ^ 62 → part ≡ start + steps_for_all q p ts ns cover (take i mutants) → part < 2 ^ 63
  room_left mutants i part start many room so_far =
      let some = sum_by-take-le (steps_of q p ts ns cover) mutants i in
      let all = sum_by-le (steps_of q p ts ns cover) 825741000000 mutants (λ k d lt. steps_most _) in
      omega (arith, some, all, many, room, so_far)

-- The steps up to one more mutant are no more than those of all.
pub within_all : (q : Limits) (p now : List Info) (ts : List Test) (ns : List ℕ) (cover : Covered) (mutants : List Mutant) (i : ℕ) (m : Mutant) (part next start : ℕ) → now ≡ p → i < length mutants → m ≡ get_or mutants i m
    → part ≡ start + steps_for_all q p ts ns cover (take i mutants) → next ≤ part + steps_of q now ts ns cover m → next ≤ start + steps_for_all q p ts ns cover mutants
within_all q p now ts ns cover mutants i m part next start same lt is so_far le =
    let here : steps_of q now ts ns cover m ≡ steps_of q p ts ns cover (get_or mutants i m) = ap (λ w. steps_of q w ts ns cover m) same ∙ ap (steps_of q p ts ns cover) is in
    let most = sum_by_more_le (steps_of q p ts ns cover) mutants i m lt in
    omega (arith, here, most, so_far, le)
