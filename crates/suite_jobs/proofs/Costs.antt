-- What a job costs with old records, and without any.
use Rattle.std.proofs.Common.{ℕ, ◌≤◌, Bool, true, false, List, [], ◌∷◌, map, subst, arith}
use Rattle.std.specs.Prelude.{if◌then◌else◌, is_some}
use Rattle.std.specs.List.{AllByRecursion}
use Rattle.record_rules.specs.declared.record.RunRecord.{RunRecord}
use Rattle.job_rules.specs.Tried.{Tried, JobRuns, detects, needed, cost_of_run, cost_of, cost_of_all, need_cost}
use Rattle.suite_jobs.specs.Jobs.{says, job_runs}
use Rattle.suite_jobs.specs.Laws.{EachRun, IsOwn, RunsAreOwn, forgotten, from_scratch, RunsStayTheSame, steps_of, CostsNoMore, ReuseCostsNoMore}
use Rattle.suite_jobs.proofs.Alike.{Runs, IsMade, same_needed, mutants_made}

-- ---- the needed runs are among all

less_case : (every stops : Bool) (rest others : Runs) → cost_of steps_of rest ≤ cost_of steps_of others → cost_of steps_of (if every then rest else (if stops then [] else rest)) ≤ cost_of steps_of others
less_case true stops rest others h = h
less_case false true rest others h = omega arith
less_case false false rest others h = h

needed_less : (all : Bool) (ts : Runs) → cost_of steps_of (needed says all ts) ≤ cost_of steps_of ts
needed_less all [] = omega arith
needed_less all (t ∷ ts) =
    let h = less_case all (detects says t) (needed says all ts) ts (needed_less all ts) in
    omega (arith, h)

need_less : (all : Bool) (mutants : List Runs) → need_cost says steps_of all mutants ≤ cost_of_all steps_of mutants
need_less all [] = omega arith
need_less all (ts ∷ mutants) = let h = needed_less all ts in let k = need_less all mutants in omega (arith, h, k)

-- ---- old records save steps

saved : (b : Bool) (n : ℕ) → (if b then 0 else n) ≤ n
saved true n = omega arith
saved false n = omega arith

run_less : (t : Tried RunRecord) → cost_of_run steps_of t ≤ cost_of_run steps_of (forgotten t)
run_less t = saved (is_some t.found) t.made.steps

runs_less : (ts : Runs) → cost_of steps_of ts ≤ cost_of steps_of (map forgotten ts)
runs_less [] = omega arith
runs_less (t ∷ ts) = let h = run_less t in let k = runs_less ts in omega (arith, h, k)

all_less : (mutants : List Runs) → cost_of_all steps_of mutants ≤ cost_of_all steps_of (map (map forgotten) mutants)
all_less [] = omega arith
all_less (ts ∷ mutants) = let h = runs_less ts in let k = all_less mutants in omega (arith, h, k)

needs_less : (all : Bool) (mutants : List Runs) → AllByRecursion (AllByRecursion IsMade) mutants → need_cost says steps_of all mutants ≤ need_cost says steps_of all (map (map forgotten) mutants)
needs_less all [] q = omega arith
needs_less all (ts ∷ mutants) q =
    let h : cost_of steps_of (needed says all ts) ≤ cost_of steps_of (needed says all (map forgotten ts)) =
    subst (λ (us : Runs). cost_of steps_of (needed says all ts) ≤ cost_of steps_of us) (same_needed all ts q.0) (runs_less (needed says all ts)) in
    let k = needs_less all mutants q.1 in
    omega (arith, h, k)

costs : (j : JobRuns RunRecord) → EachRun IsOwn j → CostsNoMore j (from_scratch j)
costs j q = record {
  between = λ all. let h = need_less all j.mutants in omega (arith, h);
  least = λ all. let h = runs_less j.originals in let k = needs_less all j.mutants (mutants_made j q) in omega (arith, h, k);
  most = let h = runs_less j.originals in let k = all_less j.mutants in omega (arith, h, k);
}

pub no_more : RunsAreOwn → RunsStayTheSame → ReuseCostsNoMore
no_more own same a s old h true_old =
    subst (CostsNoMore (job_runs a s old)) (same a s old h true_old) (costs (job_runs a s old) (own a s old h true_old))
