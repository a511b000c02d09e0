use Rattle.std.proofs.Common.{Option, subst}
use Rattle.std.proofs.lemmas.Result.{err_from_is_err_and}
use Rattle.mt_edge.specs.Files.{Files}
use Rattle.mutest_words.specs.Words.{as_run_options}
use Rattle.mutest_engine.specs.Decided.{sourced_answer}
use Rattle.mutest_engine.specs.Ends.{AnswersHeld}
use Rattle.mutest_engine.proofs.FaultLaws.{only_on}
use Rattle.mutest_engine.proofs.KnownLaws.{answers_held, answers_true, before_held, before_may, before_meters, before_meters_true, before_true, halt_stays, halts_held, halts_true, may_answer, may_refuse, meters_halt, meters_halt_true, meters_held, meters_held_true}
use Rattle.mutest_engine.proofs.MadeLaws.{early_stays, late_stays}
use Rattle.mutest_engine.proofs.SeenLaws.{before_seen, reported_seen, runs_seen}
use Rattle.mutest_engine.proofs.running.run_answer.Goals as goal

-- ---- before the first run

pub known_reported-requires-clause-made : goal.known_reported-requires-clause-made
known_reported-requires-clause-made g c κs within = (c.in_ok-known.ensures.known.loaded, c.in_ok-known.ensures.known.made)

pub returns-in_err-known-clause-value : goal.returns-in_err-known-clause-value
returns-in_err-known-clause-value g c =
    let p = err_from_is_err_and c.from_residual.result c.from_residual.ensures.1 in
    rw (p.1, p.2) (before_held (g.T.Tree.holds c.args.tree.now) (as_run_options c.args.options) c.in_err-known.field-0.0 c.in_err-known.ensures.refused)

pub returns-in_err-known-clause-scratch : goal.returns-in_err-known-clause-scratch
returns-in_err-known-clause-scratch g c =
    let p = err_from_is_err_and c.from_residual.result c.from_residual.ensures.1 in
    rw (p.1, p.2) (before_true (g.T.Tree.holds c.args.tree.now) (as_run_options c.args.options) c.in_err-known.field-0.0 c.in_err-known.ensures.refused)

pub returns-in_err-known-clause-answer : goal.returns-in_err-known-clause-answer
returns-in_err-known-clause-answer g c =
    let p = err_from_is_err_and c.from_residual.result c.from_residual.ensures.1 in
    rw (p.1, p.2) (before_may (as_run_options c.args.options) c.in_err-known.field-0.0 c.in_err-known.ensures.tree.1.0)

pub returns-in_err-known-clause-meter : goal.returns-in_err-known-clause-meter
returns-in_err-known-clause-meter g c =
    let p = err_from_is_err_and c.from_residual.result c.from_residual.ensures.1 in
    rw (p.1, p.2) (before_meters (g.T.Tree.holds c.args.tree.now) (as_run_options c.args.options) c.args.meter.now c.in_err-known.field-0.0 c.in_err-known.ensures.refused)

pub returns-in_err-known-clause-scratch_meter : goal.returns-in_err-known-clause-scratch_meter
returns-in_err-known-clause-scratch_meter g c =
    let p = err_from_is_err_and c.from_residual.result c.from_residual.ensures.1 in
    rw (p.1, p.2) (before_meters_true (g.T.Tree.holds c.args.tree.now) (as_run_options c.args.options) c.args.meter.now c.in_err-known.field-0.0 c.in_err-known.ensures.refused)

pub returns-in_err-known-clause-seen : goal.returns-in_err-known-clause-seen
returns-in_err-known-clause-seen g c =
    let p = err_from_is_err_and c.from_residual.result c.from_residual.ensures.1 in
    rw (p.1, p.2) (before_seen (as_run_options c.args.options) c.args.meter.now c.in_err-known.field-0.0 c.in_err-known.ensures.seen)

pub returns-in_err-known-clause-stays : goal.returns-in_err-known-clause-stays
returns-in_err-known-clause-stays g c =
    let p = err_from_is_err_and c.from_residual.result c.from_residual.ensures.1 in
    rw (p.1, p.2) (early_stays c.args.meter.now c.in_err-known.field-0.0)

pub returns-in_err-known-clause-tree : goal.returns-in_err-known-clause-tree
returns-in_err-known-clause-tree g c =
    let p = err_from_is_err_and c.from_residual.result c.from_residual.ensures.1 in
    rw (p.1, p.2) (c.in_err-known.ensures.tree.0, c.in_err-known.ensures.tree.1.1)

-- ---- at the runs

pub returns-in_err-reported-clause-value : goal.returns-in_err-reported-clause-value
returns-in_err-reported-clause-value g c =
    let known = c.in_ok-known.ensures.known in
    let p = err_from_is_err_and c.from_residual-in_err-reported.result c.from_residual-in_err-reported.ensures.1 in
    rw p.1 (halts_held (g.T.Tree.holds c.args.tree.now) (as_run_options c.args.options) c.in_ok-known.known known p.0 c.in_err-reported.field-0.0 p.2 (c.in_err-reported.ensures.value known.loaded known.made))

pub returns-in_err-reported-clause-scratch : goal.returns-in_err-reported-clause-scratch
returns-in_err-reported-clause-scratch g c =
    let known = c.in_ok-known.ensures.known in
    let p = err_from_is_err_and c.from_residual-in_err-reported.result c.from_residual-in_err-reported.ensures.1 in
    rw p.1 (halts_true (g.T.Tree.holds c.args.tree.now) (as_run_options c.args.options) c.in_ok-known.known known p.0 c.in_err-reported.field-0.0 p.2 (c.in_err-reported.ensures.scratch known.loaded known.made))

pub returns-in_err-reported-clause-answer : goal.returns-in_err-reported-clause-answer
returns-in_err-reported-clause-answer g c =
    let known = c.in_ok-known.ensures.known in
    let p = err_from_is_err_and c.from_residual-in_err-reported.result c.from_residual-in_err-reported.ensures.1 in
    rw p.1 (may_refuse (g.T.Tree.holds c.args.tree.now) (as_run_options c.args.options) c.in_ok-known.known known c.args.meter.now c.known_reported.new.meter c.in_err-reported.field-0.0 p.0 p.2 c.in_err-reported.ensures.refusal)

pub returns-in_err-reported-clause-meter : goal.returns-in_err-reported-clause-meter
returns-in_err-reported-clause-meter g c =
    let known = c.in_ok-known.ensures.known in
    let p = err_from_is_err_and c.from_residual-in_err-reported.result c.from_residual-in_err-reported.ensures.1 in
    rw p.1 (meters_halt (g.T.Tree.holds c.args.tree.now) (as_run_options c.args.options) c.in_ok-known.known known c.args.meter.now c.known_reported.new.meter c.in_err-reported.field-0.0 p.0 p.2 (c.in_err-reported.ensures.meter known.loaded known.made))

pub returns-in_err-reported-clause-scratch_meter : goal.returns-in_err-reported-clause-scratch_meter
returns-in_err-reported-clause-scratch_meter g c =
    let known = c.in_ok-known.ensures.known in
    let p = err_from_is_err_and c.from_residual-in_err-reported.result c.from_residual-in_err-reported.ensures.1 in
    rw p.1 (meters_halt_true (g.T.Tree.holds c.args.tree.now) (as_run_options c.args.options) c.in_ok-known.known known c.answers_are_from_scratch.ensures c.args.meter.now c.known_reported.new.meter c.in_err-reported.field-0.0 p.0 p.2 (c.in_err-reported.ensures.meter known.loaded known.made))

pub returns-in_err-reported-clause-seen : goal.returns-in_err-reported-clause-seen
returns-in_err-reported-clause-seen g c =
    let known = c.in_ok-known.ensures.known in
    let p = err_from_is_err_and c.from_residual-in_err-reported.result c.from_residual-in_err-reported.ensures.1 in
    rw p.1 (runs_seen (g.T.Tree.holds c.args.tree.now) (as_run_options c.args.options) c.in_ok-known.known known c.answers_are_from_scratch.ensures c.args.meter.now c.known_reported.new.meter c.in_err-reported.field-0.0 p.0 p.2 (c.in_err-reported.ensures.value known.loaded known.made) (c.in_err-reported.ensures.scratch known.loaded known.made) (c.in_err-reported.ensures.meter known.loaded known.made))

pub returns-in_err-reported-clause-stays : goal.returns-in_err-reported-clause-stays
returns-in_err-reported-clause-stays g c =
    let p = err_from_is_err_and c.from_residual-in_err-reported.result c.from_residual-in_err-reported.ensures.1 in
    rw p.1 (halt_stays c.in_ok-known.known c.args.meter.now c.known_reported.new.meter c.in_err-reported.field-0.0 p.0 p.2 c.in_err-reported.ensures.later c.in_err-reported.ensures.refusal)

pub returns-in_err-reported-clause-tree : goal.returns-in_err-reported-clause-tree
returns-in_err-reported-clause-tree g c =
    let p = err_from_is_err_and c.from_residual-in_err-reported.result c.from_residual-in_err-reported.ensures.1 in
    rw p.1 (c.in_ok-known.ensures.tree.0, λ faults e. absurd (p.2.1 faults e))

-- ---- behind them

pub returns-clause-value : goal.returns-clause-value
returns-clause-value g c =
    let known = c.in_ok-known.ensures.known in
    let options = as_run_options c.args.options in
    answers_held (g.T.Tree.holds c.args.tree.now) options c.in_ok-known.known known c.in_ok-reported.reported c.sourced_answer.result (c.in_ok-reported.ensures.value known.loaded known.made)
    (subst (λ (held : Option Files). AnswersHeld held (sourced_answer options c.in_ok-reported.reported) c.sourced_answer.result) c.in_ok-known.ensures.tree.0.0 c.sourced_answer.ensures.value)

pub returns-clause-scratch : goal.returns-clause-scratch
returns-clause-scratch g c =
    let known = c.in_ok-known.ensures.known in
    let options = as_run_options c.args.options in
    answers_true (g.T.Tree.holds c.args.tree.now) options c.in_ok-known.known known c.in_ok-reported.reported c.sourced_answer.result (c.in_ok-reported.ensures.scratch known.loaded known.made)
    (subst (λ (held : Option Files). AnswersHeld held (sourced_answer options c.in_ok-reported.reported) c.sourced_answer.result) c.in_ok-known.ensures.tree.0.0 c.sourced_answer.ensures.value)

pub returns-clause-answer : goal.returns-clause-answer
returns-clause-answer g c =
    let known = c.in_ok-known.ensures.known in
    may_answer (g.T.Tree.holds c.args.tree.now) (as_run_options c.args.options) c.in_ok-known.known known c.in_ok-reported.reported c.sourced_answer.result (c.in_ok-reported.ensures.value known.loaded known.made) c.sourced_answer.ensures.answer

pub returns-clause-meter : goal.returns-clause-meter
returns-clause-meter g c =
    let known = c.in_ok-known.ensures.known in
    meters_held (g.T.Tree.holds c.args.tree.now) (as_run_options c.args.options) c.in_ok-known.known known c.args.meter.now c.known_reported.new.meter c.in_ok-reported.reported c.sourced_answer.result (c.in_ok-reported.ensures.meter known.loaded known.made)

pub returns-clause-scratch_meter : goal.returns-clause-scratch_meter
returns-clause-scratch_meter g c =
    let known = c.in_ok-known.ensures.known in
    meters_held_true (g.T.Tree.holds c.args.tree.now) (as_run_options c.args.options) c.in_ok-known.known known c.answers_are_from_scratch.ensures c.args.meter.now c.known_reported.new.meter c.in_ok-reported.reported c.sourced_answer.result (c.in_ok-reported.ensures.meter known.loaded known.made)

pub returns-clause-seen : goal.returns-clause-seen
returns-clause-seen g c =
    let known = c.in_ok-known.ensures.known in
    reported_seen (g.T.Tree.holds c.args.tree.now) (as_run_options c.args.options) c.in_ok-known.known known c.answers_are_from_scratch.ensures c.args.meter.now c.known_reported.new.meter c.in_ok-reported.reported c.sourced_answer.result (c.in_ok-reported.ensures.value known.loaded known.made) (c.in_ok-reported.ensures.scratch known.loaded known.made) (c.in_ok-reported.ensures.meter known.loaded known.made) c.sourced_answer.ensures.answer

pub returns-clause-stays : goal.returns-clause-stays
returns-clause-stays g c = late_stays c.args.meter.now c.known_reported.new.meter (as_run_options c.args.options) c.in_ok-reported.reported c.sourced_answer.result c.in_ok-reported.ensures.later c.sourced_answer.ensures.answer

pub returns-clause-tree : goal.returns-clause-tree
returns-clause-tree g c =
    let h = g.T.Tree.holds in
    let w = g.T.Tree.writing in
    let r = g.T.Tree.reading in
    let t = c.args.tree.now in
    let u = c.read_job.new.tree in
    let v = c.sourced_answer.new.tree in
    only_on (h t) (h u) (h v) (w t) (w u) (w v) (r t) (r u) (r v) c.sourced_answer.result c.in_ok-known.ensures.tree.0 c.sourced_answer.ensures.tree
