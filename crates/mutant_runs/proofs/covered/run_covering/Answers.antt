use Rattle.std.proofs.Common.{◌≡◌, ◌∙◌, sym, ap, subst, ℕ, ◌<◌, List, [], None, length, All, arith, rules}
use Rattle.class_table.specs.Table.{look}
use Rattle.mutant_runs.specs.Needed.{verdict_picked}
use Rattle.mutant_runs.specs.Programs.{files_of}
use Rattle.mutant_runs.specs.Promises.{covering_at}
use Rattle.mutant_runs.specs.Runs.{timed}
use Rattle.mutant_runs.specs.Verdicts.{verdict_by}
use Rattle.mutant_runs.proofs.MutantLaws.{uncovered_verdict, uncovered_steps, covering_below, covering_few}
use Rattle.mutant_runs.proofs.covered.run_covering.Goals as goal

pub returns-then-is_empty-clause-told : goal.returns-then-is_empty-clause-told
returns-then-is_empty-clause-told c =
    let none : c.in_ok-covering.covering ≡ [] = search rules in
    c.not_covered.ensures
    ∙ ap (λ ks. verdict_by ks None) (sym none)
    ∙ uncovered_verdict c.args.set.now.limits c.args.program.now c.args.set.now.tests.now c.args.set.now.steps.now c.args.mutant.now c.in_ok-covering.covering none c.requires.viable
    ∙ ap (λ ks. verdict_picked c.args.set.now.limits (files_of c.args.program.now) (look c.args.program.now) (timed c.args.set.now.tests.now c.args.set.now.steps.now) ks c.args.mutant.now) c.in_ok-covering.ensures

pub returns-then-is_empty-clause-steps : goal.returns-then-is_empty-clause-steps
returns-then-is_empty-clause-steps c =
    let none : c.in_ok-covering.covering ≡ [] = search rules in
    let steps = uncovered_steps c.args.set.now.limits c.args.program.now c.args.set.now.tests.now c.args.set.now.steps.now c.args.mutant.now (covering_at c.args.program.now c.args.set.now.cover.now c.args.mutant.now) (sym c.in_ok-covering.ensures ∙ none) in
    omega (arith, steps)

pub run_mutant-requires-clause-numbers : goal.run_mutant-requires-clause-numbers
run_mutant-requires-clause-numbers c =
    let P : List ℕ → Type 0 = λ ks. All (λ k. k < length c.args.set.now.tests.now) ks in
    subst P (sym c.in_ok-covering.ensures) (covering_below c.args.set.now.cover.now c.args.mutant.now c.args.program.now (length c.args.set.now.tests.now) c.args.set.now.covered)

pub run_mutant-requires-clause-few : goal.run_mutant-requires-clause-few
run_mutant-requires-clause-few c =
    let long : length c.in_ok-covering.covering ≡ length (covering_at c.args.program.now c.args.set.now.cover.now c.args.mutant.now) = ap (λ (ks : List ℕ). length ks) c.in_ok-covering.ensures in
    let few = covering_few c.args.set.now.cover.now c.args.mutant.now c.args.program.now (length c.args.set.now.tests.now) c.args.set.now.covered in
    let tests = c.args.set.now.few in
    omega (arith, long, few, tests)
