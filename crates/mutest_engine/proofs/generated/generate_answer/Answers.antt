use Rattle.std.proofs.Common.{Ok, Err, subst}
use Rattle.std.proofs.lemmas.Result.{err_from_is_err_and}
use Rattle.mutest_words.specs.Words.{RunOptions, as_generate_options}
use Rattle.mutest_engine.specs.Decided.{summed}
use Rattle.mutest_engine.specs.Known.{MetersOfKnown, ReportsKnown, ReportsTrueKnown}
use Rattle.mutest_engine.proofs.GeneratedLaws.{answers_every, answers_known, early_bounds, early_bounds_true, early_every, early_known, early_may, halts_every, halts_known, made_stays, made_unread, may_answer, may_halt, meters_done, meters_done_true, meters_halt, meters_halt_true, none_true_in, usual_limited}
use Rattle.mutest_engine.proofs.KnownLaws.{halt_stays}
use Rattle.mutest_engine.proofs.MadeLaws.{early_stays}
use Rattle.mutest_engine.proofs.generated.generate_answer.Goals as goal

-- ---- before the first run

pub known_reported-requires-clause-limited : goal.known_reported-requires-clause-limited
known_reported-requires-clause-limited g c κs within = usual_limited (as_generate_options c.args.options) _ c.usual_run.ensures c.requires.limited

pub known_reported-requires-clause-made : goal.known_reported-requires-clause-made
known_reported-requires-clause-made g c κs within = (c.in_ok-known.ensures.known.loaded, c.in_ok-known.ensures.known.made)

pub returns-in_err-known-clause-value : goal.returns-in_err-known-clause-value
returns-in_err-known-clause-value g c =
    let p = err_from_is_err_and c.from_residual.result c.from_residual.ensures.1 in
    rw p.1 (early_known (as_generate_options c.args.options) c.in_err-known.field-0.0 p.0 p.2 c.in_err-known.ensures.refused)

pub returns-in_err-known-clause-scratch : goal.returns-in_err-known-clause-scratch
returns-in_err-known-clause-scratch g c =
    let p = err_from_is_err_and c.from_residual.result c.from_residual.ensures.1 in
    rw p.1 (early_every (as_generate_options c.args.options) c.in_err-known.field-0.0 p.0 p.2 c.in_err-known.ensures.refused)

pub returns-in_err-known-clause-answer : goal.returns-in_err-known-clause-answer
returns-in_err-known-clause-answer g c =
    let p = err_from_is_err_and c.from_residual.result c.from_residual.ensures.1 in
    rw p.1 (early_may (as_generate_options c.args.options) c.in_err-known.field-0.0 p.0 p.2 c.in_err-known.ensures.refusal)

pub returns-in_err-known-clause-meter : goal.returns-in_err-known-clause-meter
returns-in_err-known-clause-meter g c =
    let p = err_from_is_err_and c.from_residual.result c.from_residual.ensures.1 in
    rw p.1 (early_bounds (as_generate_options c.args.options) c.in_err-known.field-0.0 p.0 p.2 c.in_err-known.ensures.refused c.args.meter.now)

pub returns-in_err-known-clause-scratch_meter : goal.returns-in_err-known-clause-scratch_meter
returns-in_err-known-clause-scratch_meter g c =
    let p = err_from_is_err_and c.from_residual.result c.from_residual.ensures.1 in
    rw p.1 (early_bounds_true (as_generate_options c.args.options) c.in_err-known.field-0.0 p.0 p.2 c.in_err-known.ensures.refused c.args.meter.now)

pub returns-in_err-known-clause-stays : goal.returns-in_err-known-clause-stays
returns-in_err-known-clause-stays g c =
    let p = err_from_is_err_and c.from_residual.result c.from_residual.ensures.1 in
    rw p.1 (early_stays c.args.meter.now p.0)

pub returns-in_err-known-clause-unread : goal.returns-in_err-known-clause-unread
returns-in_err-known-clause-unread g c =
    let p = err_from_is_err_and c.from_residual.result c.from_residual.ensures.1 in
    rw p.1 (p.2.1)

-- ---- at the runs

pub returns-in_err-reported-clause-value : goal.returns-in_err-reported-clause-value
returns-in_err-reported-clause-value g c =
    let o = as_generate_options c.args.options in
    let k = c.in_ok-known.known in
    let known = c.in_ok-known.ensures.known in
    let told = subst (λ (r : RunOptions). ReportsKnown r k (Err c.in_err-reported.field-0.0)) c.usual_run.ensures c.in_err-reported.ensures.value in
    let p = err_from_is_err_and c.from_residual-in_err-reported.result c.from_residual-in_err-reported.ensures.1 in
    rw p.1 (halts_known o k known c.in_err-reported.field-0.0 p.0 p.2 (told known.loaded known.made))

pub returns-in_err-reported-clause-scratch : goal.returns-in_err-reported-clause-scratch
returns-in_err-reported-clause-scratch g c =
    let o = as_generate_options c.args.options in
    let k = c.in_ok-known.known in
    let known = c.in_ok-known.ensures.known in
    let told = subst (λ (r : RunOptions). ReportsTrueKnown r k (Err c.in_err-reported.field-0.0)) c.usual_run.ensures c.in_err-reported.ensures.scratch in
    let p = err_from_is_err_and c.from_residual-in_err-reported.result c.from_residual-in_err-reported.ensures.1 in
    rw p.1 (halts_every o k known c.in_err-reported.field-0.0 p.0 p.2 (told known.loaded known.made (none_true_in o k known)))

pub returns-in_err-reported-clause-answer : goal.returns-in_err-reported-clause-answer
returns-in_err-reported-clause-answer g c =
    let o = as_generate_options c.args.options in
    let k = c.in_ok-known.known in
    let known = c.in_ok-known.ensures.known in
    let p = err_from_is_err_and c.from_residual-in_err-reported.result c.from_residual-in_err-reported.ensures.1 in
    rw p.1 (may_halt o k known c.args.meter.now c.known_reported.new.meter c.in_err-reported.field-0.0 p.0 p.2 c.in_err-reported.ensures.refusal)

pub returns-in_err-reported-clause-meter : goal.returns-in_err-reported-clause-meter
returns-in_err-reported-clause-meter g c =
    let o = as_generate_options c.args.options in
    let k = c.in_ok-known.known in
    let known = c.in_ok-known.ensures.known in
    let told = subst (λ (r : RunOptions). MetersOfKnown r k c.args.meter.now c.known_reported.new.meter (Err c.in_err-reported.field-0.0)) c.usual_run.ensures c.in_err-reported.ensures.meter in
    let p = err_from_is_err_and c.from_residual-in_err-reported.result c.from_residual-in_err-reported.ensures.1 in
    rw p.1 (meters_halt o k known c.args.meter.now c.known_reported.new.meter c.in_err-reported.field-0.0 p.0 p.2 (told known.loaded known.made))

pub returns-in_err-reported-clause-scratch_meter : goal.returns-in_err-reported-clause-scratch_meter
returns-in_err-reported-clause-scratch_meter g c =
    let o = as_generate_options c.args.options in
    let k = c.in_ok-known.known in
    let known = c.in_ok-known.ensures.known in
    let told = subst (λ (r : RunOptions). MetersOfKnown r k c.args.meter.now c.known_reported.new.meter (Err c.in_err-reported.field-0.0)) c.usual_run.ensures c.in_err-reported.ensures.meter in
    let p = err_from_is_err_and c.from_residual-in_err-reported.result c.from_residual-in_err-reported.ensures.1 in
    rw p.1 (meters_halt_true o k known c.answers_are_from_scratch.ensures c.args.meter.now c.known_reported.new.meter c.in_err-reported.field-0.0 p.0 p.2 (told known.loaded known.made))

pub returns-in_err-reported-clause-stays : goal.returns-in_err-reported-clause-stays
returns-in_err-reported-clause-stays g c =
    let p = err_from_is_err_and c.from_residual-in_err-reported.result c.from_residual-in_err-reported.ensures.1 in
    rw p.1 (halt_stays c.in_ok-known.known c.args.meter.now c.known_reported.new.meter c.in_err-reported.field-0.0 p.0 p.2 c.in_err-reported.ensures.later c.in_err-reported.ensures.refusal)

pub returns-in_err-reported-clause-unread : goal.returns-in_err-reported-clause-unread
returns-in_err-reported-clause-unread g c =
    let p = err_from_is_err_and c.from_residual-in_err-reported.result c.from_residual-in_err-reported.ensures.1 in
    rw p.1 p.2.1

-- ---- behind them

pub returns-clause-value : goal.returns-clause-value
returns-clause-value g c =
    let o = as_generate_options c.args.options in
    let k = c.in_ok-known.known in
    let known = c.in_ok-known.ensures.known in
    let told = subst (λ (r : RunOptions). ReportsKnown r k (Ok c.in_ok-reported.reported)) c.usual_run.ensures c.in_ok-reported.ensures.value in
    answers_known o k known c.in_ok-reported.reported c.summed.result (told known.loaded known.made) c.summed.ensures

pub returns-clause-scratch : goal.returns-clause-scratch
returns-clause-scratch g c =
    let o = as_generate_options c.args.options in
    let k = c.in_ok-known.known in
    let known = c.in_ok-known.ensures.known in
    let told = subst (λ (r : RunOptions). ReportsTrueKnown r k (Ok c.in_ok-reported.reported)) c.usual_run.ensures c.in_ok-reported.ensures.scratch in
    answers_every o k known c.in_ok-reported.reported c.summed.result (told known.loaded known.made (none_true_in o k known)) c.summed.ensures

pub returns-clause-answer : goal.returns-clause-answer
returns-clause-answer g c =
    let o = as_generate_options c.args.options in
    let k = c.in_ok-known.known in
    let known = c.in_ok-known.ensures.known in
    let told = subst (λ (r : RunOptions). ReportsKnown r k (Ok c.in_ok-reported.reported)) c.usual_run.ensures c.in_ok-reported.ensures.value in
    may_answer o k known c.in_ok-reported.reported c.summed.result (told known.loaded known.made) c.summed.ensures

pub returns-clause-meter : goal.returns-clause-meter
returns-clause-meter g c =
    let o = as_generate_options c.args.options in
    let k = c.in_ok-known.known in
    let known = c.in_ok-known.ensures.known in
    let told = subst (λ (r : RunOptions). MetersOfKnown r k c.args.meter.now c.known_reported.new.meter (Ok c.in_ok-reported.reported)) c.usual_run.ensures c.in_ok-reported.ensures.meter in
    meters_done o k known c.args.meter.now c.known_reported.new.meter c.in_ok-reported.reported c.summed.result (told known.loaded known.made)

pub returns-clause-scratch_meter : goal.returns-clause-scratch_meter
returns-clause-scratch_meter g c =
    let o = as_generate_options c.args.options in
    let k = c.in_ok-known.known in
    let known = c.in_ok-known.ensures.known in
    let told = subst (λ (r : RunOptions). MetersOfKnown r k c.args.meter.now c.known_reported.new.meter (Ok c.in_ok-reported.reported)) c.usual_run.ensures c.in_ok-reported.ensures.meter in
    meters_done_true o k known c.answers_are_from_scratch.ensures c.args.meter.now c.known_reported.new.meter c.in_ok-reported.reported c.summed.result (told known.loaded known.made)

pub returns-clause-stays : goal.returns-clause-stays
returns-clause-stays g c = made_stays c.args.meter.now c.known_reported.new.meter (summed c.in_ok-reported.reported) c.summed.result c.in_ok-reported.ensures.later c.summed.ensures

pub returns-clause-unread : goal.returns-clause-unread
returns-clause-unread g c = made_unread (summed c.in_ok-reported.reported) c.summed.result c.summed.ensures
