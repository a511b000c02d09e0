use Rattle.std.proofs.Common.{◌≡◌, ◌∙◌, ℕ, List, Option, None, Some, Result, Ok, Err, ap, sym}
use Rattle.std.specs.Prelude.{IfSome}
use Rattle.std.proofs.lemmas.Result.{err_from_is_err_and}
use Rattle.mt_edge.specs.Files.{Files}
use Rattle.mutest_words.specs.Words.{RunOptions, as_run_options}
use Rattle.report_pieces.specs.declared.input.Group.{Group}
use Rattle.mutest_engine.specs.Answers.{Answered}
use Rattle.mutest_engine.specs.Decided.{report_answer, sourced_answer}
use Rattle.mutest_engine.specs.Ends.{AnswersHeld}
use Rattle.mutest_engine.specs.Sources.{sources_in}
use Rattle.mutest_engine.specs.Steps.{and_then, RefusesReading}
use Rattle.mutest_engine.specs.declared.refusal.Refusal.{Refusal}
use Rattle.mutest_engine.specs.declared.reported.Reported.{Reported}
use Rattle.mutest_engine.specs.declared.stop.Halt.{Halt}
use Rattle.mutest_engine.proofs.MadeLaws.{made_held, made_reads, made_report}
use Rattle.mutest_engine.proofs.running.sourced_answer.Goals as goal

abbrev with_answer : RunOptions → Reported → List (List ℕ) → Result Answered Refusal
with_answer options reported sources = Ok (report_answer options reported sources)

-- The sources are few enough.
sourced : (held : Option Files) (options : RunOptions) (reported : Reported) (groups : List Group) (sources : List (List ℕ)) → groups ≡ reported.input.files → IfSome held (λ files. sources_in options.sources groups files ≡ Ok sources)
    → IfSome held (λ files. sourced_answer options reported files ≡ with_answer options reported sources)
sourced None options reported groups sources same read = tt
sourced (Some files) options reported groups sources same read =
    ap (λ gs. and_then (sources_in options.sources gs files) (with_answer options reported)) (sym same)
    ∙ ap (λ x. and_then x (with_answer options reported)) read

-- They are refused.
refused : (held : Option Files) (options : RunOptions) (reported : Reported) (groups : List Group) (h : Halt) → groups ≡ reported.input.files → IfSome held (λ files. RefusesReading (λ r. sources_in options.sources groups files ≡ Err r) h)
    → AnswersHeld held (sourced_answer options reported) (Err h)
refused None options reported groups h same read = tt
refused (Some files) options reported groups h same read = λ r e.
    ap (λ gs. and_then (sources_in options.sources gs files) (with_answer options reported)) (sym same)
    ∙ ap (λ x. and_then x (with_answer options reported)) (read r e)

pub returns-in_err-sources-clause-value : goal.returns-in_err-sources-clause-value
returns-in_err-sources-clause-value g c =
    let q = err_from_is_err_and c.from_residual.result c.from_residual.ensures.1 in
    rw (q.1, q.2) (refused (g.T.Tree.holds c.args.tree.now) (as_run_options c.args.options) c.args.reported c.as_slice.result.now c.in_err-sources.field-0.0 c.as_slice.ensures c.in_err-sources.ensures.value)

pub returns-clause-value : goal.returns-clause-value
returns-clause-value g c =
    let held = g.T.Tree.holds c.args.tree.now in
    let options = as_run_options c.args.options in
    let sources = c.in_ok-sources.sources in
    made_held held (λ files. sourced_answer options c.args.reported files) (report_answer options c.args.reported sources) c.report_answer.result
    (sourced held options c.args.reported c.as_slice.result.now sources c.as_slice.ensures c.in_ok-sources.ensures.value) c.report_answer.ensures

pub returns-clause-answer : goal.returns-clause-answer
returns-clause-answer g c =
    made_report (as_run_options c.args.options) c.args.reported c.in_ok-sources.sources c.report_answer.result c.in_ok-sources.ensures.named c.report_answer.ensures

pub returns-clause-tree : goal.returns-clause-tree
returns-clause-tree g c =
    (c.in_ok-sources.ensures.tree.0, made_reads (g.T.Tree.reading c.args.tree.now) (g.T.Tree.reading c.sources_in.new.tree) (report_answer (as_run_options c.args.options) c.args.reported c.in_ok-sources.sources) c.report_answer.result c.report_answer.ensures)
