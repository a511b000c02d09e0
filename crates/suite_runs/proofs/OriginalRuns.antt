-- The runs of tests on a program as it is, and what they cost.
use Rattle.std.proofs.Common.{◌≡◌, ◌∙◌, ℕ, ◌*◌, ◌≤◌, List, [], ◌∷◌, length, map, replicate, Option, None, Some, sym, ap, subst, arith}
use Rattle.std.specs.Prelude.{is_some, if◌then◌else◌}
use Rattle.std.specs.List.{range_with_len}
use Rattle.std.proofs.Math.Nat.{suc-mul}
use Rattle.std.proofs.lemmas.List.FromFn.{length-range_with_len}
use Rattle.class_table.specs.declared.scripted.Test.{Test}
use Rattle.machine_laws.specs.Walks.{RunsKeepLimits}
use Rattle.machine_rules.specs.declared.machine.Limits.{Limits}
use Rattle.class_link.specs.Info.{Info}
use Rattle.suite_workers.specs.Below.{IsReady, steps_of}
use Rattle.suite_workers.specs.Jobs.{most_steps}
use Rattle.record_rules.specs.declared.record.RunRecord.{RunRecord}
use Rattle.job_rules.specs.Tried.{cost_of_run, cost_of}
use Rattle.suite_workers.specs.Old.{AreLookUps, old_of}
use Rattle.suite_workers.specs.Originals.{MayRunTests, StartsOriginals, originals_of, tests_tried}
use Rattle.suite_workers.specs.declared.look_ups.LookUps.{LookUps}
use Rattle.suite_workers.specs.declared.setup.OriginalSetup.{OriginalSetup}
use Rattle.suite_runs.specs.declared.job.SuiteJob.{SuiteJob}
use Rattle.suite_runs.specs.Originals.{IsOriginalSetup, original_cost, run_asked, run_tried}

cost_case : (found : Option RunRecord) (steps most : ℕ) → steps ≤ most → (if is_some found then 0 else steps) ≤ most
cost_case None steps most le = le
cost_case (Some r) steps most le = omega arith

module _ (p : List Info) (j : SuiteJob) (old : List RunRecord) (law : RunsKeepLimits) (fit : j.steps ≤ most_steps) where
  run_most : (k : ℕ) → cost_of_run steps_of (run_tried p j old k) ≤ 1000000000
  run_most k =
      let x = run_asked p j k in
      let within : (run_tried p j old k).made.steps ≤ j.steps = (law x.look x.test x.limits x.limit).0 in
      cost_case (run_tried p j old k).found (run_tried p j old k).made.steps 1000000000 (omega (arith, within, fit))

  costs_most : (ns : List ℕ) → cost_of steps_of (map (run_tried p j old) ns) ≤ length ns * 1000000000
  costs_most [] = omega arith
  costs_most (k ∷ ns) =
      let one = run_most k in
      let more = costs_most ns in
      let times = suc-mul (length ns) 1000000000 in
      omega (arith, one, more, times)

  -- what all cost
  pub cost_most : length j.tests.now ≤ 65535 → original_cost p j old ≤ 65535000000000
  cost_most few =
      let most = costs_most (range_with_len 0 (length j.tests.now)) in
      let long = length-range_with_len 0 (length j.tests.now) in
      omega (arith, most, long, few)

-- ---- what workers share

module _ (p : List Info) (tests : List Test) (limits : Limits) (steps : ℕ) (l : LookUps) (x : OriginalSetup) (is : IsOriginalSetup tests limits steps l x) where
  pub starts : IsReady p → MayRunTests p tests limits steps → AreLookUps p tests limits (replicate (length tests) steps) l → StartsOriginals p x
  starts ready may look_ups = record {
    ready = ready;
    may =
        subst (λ (ts : List Test). MayRunTests p ts x.limits x.steps) (sym is.tests_are)
        (subst (λ (q : Limits). MayRunTests p tests q x.steps) (sym is.limits_are)
        (subst (λ (n : ℕ). MayRunTests p tests limits n) (sym is.steps_are) may));
    look_ups =
        subst (λ (ts : List Test). AreLookUps p ts x.limits (replicate (length ts) x.steps) x.look_ups.now) (sym is.tests_are)
        (subst (λ (q : Limits). AreLookUps p tests q (replicate (length tests) x.steps) x.look_ups.now) (sym is.limits_are)
        (subst (λ (n : ℕ). AreLookUps p tests limits (replicate (length tests) n) x.look_ups.now) (sym is.steps_are)
        (subst (λ (m : LookUps). AreLookUps p tests limits (replicate (length tests) steps) m) (sym is.look_ups_are) look_ups)));
  }

  pub runs_are : originals_of p x ≡ tests_tried p tests limits steps (old_of l)
  runs_are =
      ap (λ (ts : List Test). tests_tried p ts x.limits x.steps (old_of x.look_ups.now)) is.tests_are
      ∙ ap (λ (q : Limits). tests_tried p tests q x.steps (old_of x.look_ups.now)) is.limits_are
      ∙ ap (λ (n : ℕ). tests_tried p tests limits n (old_of x.look_ups.now)) is.steps_are
      ∙ ap (λ (m : LookUps). tests_tried p tests limits steps (old_of m)) is.look_ups_are
