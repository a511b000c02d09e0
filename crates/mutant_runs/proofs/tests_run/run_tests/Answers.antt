use Rattle.std.proofs.Common.{◌∙◌, sym, refl, get_or, arith}
use Rattle.class_table.specs.Table.{look}
use Rattle.mutant_runs.proofs.RunLaws.{all_runs_most, runs_at}
use Rattle.mutant_runs.proofs.VerdictLaws.{one_more, found, found_steps, most_so_far}
use Rattle.mutant_runs.proofs.tests_run.run_tests.Goals as goal

pub run_test-requires-clause-room : goal.run_test-requires-clause-room
run_test-requires-clause-room c =
    let most = all_runs_most c.args.limits (look c.args.program.now) c.args.tests.now c.args.steps.now c.args.covering.now c.requires.few c.requires.timed in
    let so_far = c.loop-number.invariant.runs.steps in
    let room = c.requires.room in
    omega (arith, most, so_far, room)

pub returns-in_err-detected-clause-most : goal.returns-in_err-detected-clause-most
returns-in_err-detected-clause-most c =
    let at = runs_at c.args.limits (look c.args.program.now) c.args.tests.now c.args.steps.now c.args.covering.now c.loop-number.number-index (get_or c.args.covering.now c.loop-number.number-index 0) c.index-tests-at.result (get_or c.args.steps.now (get_or c.args.covering.now c.loop-number.number-index 0) 0) c.loop-number-test.true refl c.requires.numbers c.requires.each c.index-tests-at.is refl in
    most_so_far _ _ _ _ _ c.loop-number.part c.args.part.now at c.loop-number.invariant.runs c.run_test.new.part c.in_err-detected.ensures.most

pub returns-in-Some-clause-told : goal.returns-in-Some-clause-told
returns-in-Some-clause-told c =
    let at = runs_at c.args.limits (look c.args.program.now) c.args.tests.now c.args.steps.now c.args.covering.now c.loop-number.number-index (get_or c.args.covering.now c.loop-number.number-index 0) c.index-tests-at.result (get_or c.args.steps.now (get_or c.args.covering.now c.loop-number.number-index 0) 0) c.loop-number-test.true refl c.requires.numbers c.requires.each c.index-tests-at.is refl in
    found _ _ _ _ _ c.loop-number.part c.args.part.now at c.loop-number.invariant.runs c.in-Some.state (sym c.in-Some.is ∙ c.in_ok-detected.ensures.detected)

pub returns-in-Some-clause-steps : goal.returns-in-Some-clause-steps
returns-in-Some-clause-steps c =
    let at = runs_at c.args.limits (look c.args.program.now) c.args.tests.now c.args.steps.now c.args.covering.now c.loop-number.number-index (get_or c.args.covering.now c.loop-number.number-index 0) c.index-tests-at.result (get_or c.args.steps.now (get_or c.args.covering.now c.loop-number.number-index 0) 0) c.loop-number-test.true refl c.requires.numbers c.requires.each c.index-tests-at.is refl in
    found_steps _ _ _ _ _ c.loop-number.part c.args.part.now at c.loop-number.invariant.runs c.run_test.new.part c.in-Some.state (sym c.in-Some.is ∙ c.in_ok-detected.ensures.detected) c.in_ok-detected.ensures.steps

pub returns-in-Some-clause-most : goal.returns-in-Some-clause-most
returns-in-Some-clause-most c =
    let at = runs_at c.args.limits (look c.args.program.now) c.args.tests.now c.args.steps.now c.args.covering.now c.loop-number.number-index (get_or c.args.covering.now c.loop-number.number-index 0) c.index-tests-at.result (get_or c.args.steps.now (get_or c.args.covering.now c.loop-number.number-index 0) 0) c.loop-number-test.true refl c.requires.numbers c.requires.each c.index-tests-at.is refl in
    most_so_far _ _ _ _ _ c.loop-number.part c.args.part.now at c.loop-number.invariant.runs c.run_test.new.part c.in_ok-detected.ensures.most

pub loop-number-preserved : goal.loop-number-preserved
loop-number-preserved c =
    let at = runs_at c.args.limits (look c.args.program.now) c.args.tests.now c.args.steps.now c.args.covering.now c.loop-number.number-index (get_or c.args.covering.now c.loop-number.number-index 0) c.index-tests-at.result (get_or c.args.steps.now (get_or c.args.covering.now c.loop-number.number-index 0) 0) c.loop-number-test.true refl c.requires.numbers c.requires.each c.index-tests-at.is refl in
    record {
      runs = one_more _ _ _ _ _ c.loop-number.part c.args.part.now at c.loop-number.invariant.runs c.run_test.new.part (sym c.in_default.is ∙ c.in_ok-detected.ensures.detected) c.in_ok-detected.ensures.steps;
      tables = c.in_ok-detected.ensures.tables;
    }
