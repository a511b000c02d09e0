use Rattle.std.proofs.Common.{◌≡◌, ◌∙◌, ap, subst, ℕ, ◌+◌, ◌≤◌, arith}
use Rattle.class_table.specs.Table.{look}
use Rattle.machine_rules.specs.Runs.{Ran}
use Rattle.mutant_runs.specs.Promises.{run_in}
use Rattle.mutant_runs.specs.Runs.{detected, detected_at}
use Rattle.mutant_runs.proofs.RunLaws.{of_run}
use Rattle.mutant_runs.proofs.one_run.run_test.Goals as goal

pub returns-in_err-end-clause-most : goal.returns-in_err-end-clause-most
returns-in_err-end-clause-most c =
    let is = of_run c.args.limits (look c.args.program.now) c.args.test.now c.args.steps c.limit_of.result c.limit_of.ensures.value in
    let P : ℕ → Type 0 = λ n. c.execute_to_end.new.part ≤ c.args.part.now + n in
    subst P (ap (λ (r : Ran). r.steps) is) c.in_err-end.ensures.memory

pub returns-clause-detected : goal.returns-clause-detected
returns-clause-detected c =
    let is = of_run c.args.limits (look c.args.program.now) c.args.test.now c.args.steps c.limit_of.result c.limit_of.ensures.value in
    c.detected_at.ensures ∙ ap detected_at c.in_ok-end.ensures.ending ∙ ap detected (ap (λ (r : Ran). r.ending) is)

pub returns-clause-steps : goal.returns-clause-steps
returns-clause-steps c =
    let is = of_run c.args.limits (look c.args.program.now) c.args.test.now c.args.steps c.limit_of.result c.limit_of.ensures.value in
    c.in_ok-end.ensures.steps ∙ ap (λ n. c.args.part.now + n) (ap (λ (r : Ran). r.steps) is)

pub returns-clause-most : goal.returns-clause-most
returns-clause-most c =
    let is = of_run c.args.limits (look c.args.program.now) c.args.test.now c.args.steps c.limit_of.result c.limit_of.ensures.value in
    let steps : c.execute_to_end.new.part ≡ c.args.part.now + (run_in c.args.limits c.args.program.now c.args.test.now c.args.steps).steps = c.in_ok-end.ensures.steps ∙ ap (λ n. c.args.part.now + n) (ap (λ (r : Ran). r.steps) is) in
    omega (arith, steps)
