use Rattle.std.proofs.Common.{◌∙◌, sym, arith}
use Rattle.mutant_runs.specs.Promises.{covering_at}
use Rattle.mutant_runs.proofs.MutantLaws.{refused_verdict, refused_steps}
use Rattle.mutant_runs.proofs.covered.verdict_on.Goals as goal

pub returns-then-not-viable-clause-told : goal.returns-then-not-viable-clause-told
returns-then-not-viable-clause-told c =
    c.not_viable.ensures
    ∙ sym (refused_verdict c.args.set.now.limits c.args.program.now c.args.set.now.tests.now c.args.set.now.steps.now c.args.mutant.now (covering_at c.args.program.now c.args.set.now.cover.now c.args.mutant.now) (sym c.if-not-viable.true ∙ c.requires.viable))

pub returns-then-not-viable-clause-steps : goal.returns-then-not-viable-clause-steps
returns-then-not-viable-clause-steps c =
    let steps = refused_steps c.args.set.now.limits c.args.program.now c.args.set.now.tests.now c.args.set.now.steps.now c.args.mutant.now (covering_at c.args.program.now c.args.set.now.cover.now c.args.mutant.now) (sym c.if-not-viable.true ∙ c.requires.viable) in
    omega (arith, steps)
