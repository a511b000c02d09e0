-- What a command answers whose last step makes this answer, unless memory runs out; and the meter
-- before all runs and behind them.
use Rattle.std.proofs.Common.{◌≡◌, ◌∙◌, ℕ, ◌≤◌, List, refl, sym, ap, subst, arith}
use Rattle.std.specs.Prelude.{Option, None, Some, IfSome, IfErr, Result, Ok, Err}
use Rattle.mt_edge.specs.Files.{Files}
use Rattle.mutest_words.specs.Words.{Command, RunOptions}
use Rattle.mutest_engine.specs.Answers.{Answered, answered}
use Rattle.mutest_engine.specs.Decided.{CanAnswer, bounds_behind, report_answer}
use Rattle.mutest_engine.specs.Ends.{AnswerMeters, AnswersHeld, HaltStays, Makes, MayAnswer, MayReport}
use Rattle.mutest_engine.specs.Jobs.{Bounds, RoseAtMost, RoseInAll, RoseWithin, no_steps}
use Rattle.mutest_engine.specs.Sources.{AreNamed}
use Rattle.mutest_engine.specs.Steps.{FailsReading, ReadsBy}
use Rattle.mutest_engine.specs.declared.answer.Answer.{Answer}
use Rattle.mutest_engine.specs.declared.refusal.Refusal.{Refusal}
use Rattle.mutest_engine.specs.declared.reported.Reported.{Reported}
use Rattle.mutest_engine.specs.declared.stop.Halt.{Halt}
use Rattle.mutest_engine.specs.declared.stop.Halt.TheVariants as halt
use Rattle.mutest_engine.proofs.SourceLaws.{late_sources}

abbrev some_answer : Answered → Result Answered Refusal
some_answer a = Ok a

-- Want of memory is no refusal and no fault.
no_refusal : (h : Halt) (r : Refusal) (P : Type 0) → h ≡ halt.WantOfMemory → h ≡ halt.Refused r → P
no_refusal h r P want is = let e : halt.WantOfMemory ≡ halt.Refused r = sym want ∙ is in absurd cc

no_fault : (h : Halt) (faults : ℕ) (P : Type 0) → h ≡ halt.WantOfMemory → h ≡ halt.ReadFault faults → P
no_fault h faults P want is = let e : halt.WantOfMemory ≡ halt.ReadFault faults = sym want ∙ is in absurd cc

no_case : (P : Type 0) → ⊥ → P
no_case P q = absurd q

pub made_so : (stated : Result Answered Refusal) (a : Answered) (r : Result Answer Halt) → stated ≡ Ok a → Makes a r → ReadsBy answered stated r
made_so stated a (Ok x) is made = is ∙ ap some_answer (sym made)
made_so stated a (Err h) is made = λ r refused. no_refusal h r (stated ≡ Err r) made refused

pub made_held : (held : Option Files) (stated : Files → Result Answered Refusal) (a : Answered) (r : Result Answer Halt) → IfSome held (λ files. stated files ≡ Ok a) → Makes a r → AnswersHeld held stated r
made_held None stated a r is made = tt
made_held (Some files) stated a r is made = made_so (stated files) a r is made

pub made_may : (command : Command) (a : Answered) (r : Result Answer Halt) → CanAnswer command a → Makes a r → MayAnswer command r
made_may command a (Ok x) can made = subst (λ (b : Answered). CanAnswer command b) (sym made) can
made_may command a (Err h) can made = λ r refused. no_refusal h r _ made refused

pub made_reads : (before now : ℕ) (a : Answered) (r : Result Answer Halt) → Makes a r → IfErr r (FailsReading before now)
made_reads before now a (Ok x) made = tt
made_reads before now a (Err h) made = λ faults is. no_fault h faults _ made is

pub made_report : (options : RunOptions) (reported : Reported) (sources : List (List ℕ)) (r : Result Answer Halt) → AreNamed options.sources sources → Makes (report_answer options reported sources) r → MayReport options reported r
made_report options reported sources (Ok x) named made = (sources, named, made)
made_report options reported sources (Err h) named made = λ r refused. no_refusal h r _ made refused

-- ---- where nothing was run

none_within : (before : ℕ) → RoseWithin no_steps before before
none_within before = record { least = omega arith; most = omega arith }

pub none_in_all : (b : Bounds) (before : ℕ) → RoseInAll b before before
none_in_all b before = record { least = omega arith; most = omega arith }

pub none_at_most : (b : Bounds) (before : ℕ) → RoseAtMost b before before
none_at_most b before = record { least = omega arith; most = omega arith }

pub none_rose : {X : Type 0} (stated : Result X Refusal) (r : Refusal) (bounds : X → Bounds) (before : ℕ) → stated ≡ Err r → RoseWithin (bounds_behind stated bounds) before before
none_rose {X} stated r bounds before is = subst (λ (x : Result X Refusal). RoseWithin (bounds_behind x bounds) before before) (sym is) (none_within before)

pub none_meters : (before : ℕ) (r : Result Answer Halt) → AnswerMeters before before no_steps r
none_meters before (Ok a) = (none_in_all no_steps before, none_within before)
none_meters before (Err h) = (none_in_all no_steps before, (λ r e. none_within before, λ faults e. none_at_most no_steps before))

-- A step that halts before the first run, by what it is refused for.
pub early_meters : {X : Type 0} (stated : Result X Refusal) (bounds : X → Bounds) (before : ℕ) (h : Halt) → ((r : Refusal) → h ≡ halt.Refused r → stated ≡ Err r) → AnswerMeters before before (bounds_behind stated bounds) (Err h)
early_meters stated bounds before h refuses =
    (none_in_all (bounds_behind stated bounds) before, (λ r e. none_rose stated r bounds before (refuses r e), λ faults e. none_at_most (bounds_behind stated bounds) before))

same_least : (before : ℕ) → before ≤ before
same_least before = omega arith

pub early_stays : (before : ℕ) (h : Halt) → HaltStays before before h
early_stays before h = (same_least before, λ r e. (same_least before, λ early. refl))

-- ---- a step behind all runs

pub late_meters : (b : Bounds) (before after : ℕ) (r : Result Answer Halt) → RoseInAll b before after → RoseWithin b before after → AnswerMeters before after b r
late_meters b before after (Ok a) all within = (all, within)
late_meters b before after (Err h) all within = (all, (λ r e. within, λ faults e. record { least = all.least; most = within.most }))

pub late_stays : (before after : ℕ) (options : RunOptions) (reported : Reported) (r : Result Answer Halt) → before ≤ after → MayReport options reported r → IfErr r (HaltStays before after)
late_stays before after options reported (Ok x) le may = tt
late_stays before after options reported (Err h) le may = (le, λ r is. (le, λ early. no_case _ (late_sources options.sources r (may r is) early)))
