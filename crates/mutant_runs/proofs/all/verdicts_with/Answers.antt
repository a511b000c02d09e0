use Rattle.std.proofs.Common.{◌∙◌, ap, map}
use Rattle.std.proofs.lemmas.List.{take_all}
use Rattle.class_table.specs.Table.{look}
use Rattle.mutant_runs.specs.Needed.{verdict_picked}
use Rattle.mutant_runs.specs.Programs.{files_of}
use Rattle.mutant_runs.specs.Promises.{covering_at}
use Rattle.mutant_runs.specs.Runs.{timed}
use Rattle.mutant_runs.proofs.MutantLaws.{room_left, within_all}
use Rattle.mutant_runs.proofs.all.verdicts_with.Goals as goal

pub verdict_on-requires-clause-room : goal.verdict_on-requires-clause-room
verdict_on-requires-clause-room c =
    room_left c.args.set.now.limits c.args.program.now c.args.set.now.tests.now c.args.set.now.steps.now c.args.set.now.cover.now c.args.set.now.few c.args.set.now.timed c.args.set.now.covered c.args.mutants.now c.loop-i.i c.loop-i.part c.args.part.now c.requires.few_mutants c.requires.room c.loop-i.invariant.steps

pub returns-in_err-verdict-clause-most : goal.returns-in_err-verdict-clause-most
returns-in_err-verdict-clause-most c =
    within_all c.args.set.now.limits c.args.program.now c.loop-i.program c.args.set.now.tests.now c.args.set.now.steps.now c.args.set.now.cover.now c.args.mutants.now c.loop-i.i c.index-mutants-i.result c.loop-i.part c.verdict_on.new.part c.args.part.now c.loop-i.invariant.same c.loop-i-test.true c.index-mutants-i.is c.loop-i.invariant.steps c.verdict_on.ensures.most

pub returns-in_err-push-clause-most : goal.returns-in_err-push-clause-most
returns-in_err-push-clause-most c =
    within_all c.args.set.now.limits c.args.program.now c.loop-i.program c.args.set.now.tests.now c.args.set.now.steps.now c.args.set.now.cover.now c.args.mutants.now c.loop-i.i c.index-mutants-i.result c.loop-i.part c.verdict_on.new.part c.args.part.now c.loop-i.invariant.same c.loop-i-test.true c.index-mutants-i.is c.loop-i.invariant.steps c.verdict_on.ensures.most

pub returns-clause-told : goal.returns-clause-told
returns-clause-told c =
    c.loop-i.invariant.told
    ∙ ap (map (λ m. verdict_picked c.args.set.now.limits (files_of c.args.program.now) (look c.args.program.now) (timed c.args.set.now.tests.now c.args.set.now.steps.now) (covering_at c.args.program.now c.args.set.now.cover.now m) m))
    (take_all c.loop-i.i c.args.mutants.now c.loop-i-test.false)
