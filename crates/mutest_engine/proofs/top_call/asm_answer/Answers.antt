use Rattle.std.proofs.Common.{◌≡◌, ◌∙◌, ℕ, List, Option, None, Some, Result, Ok, sym, ap, subst}
use Rattle.std.specs.Prelude.{IfSome}
use Rattle.std.proofs.lemmas.Result.{err_from_is_err_and}
use Rattle.class_model.specs.declared.class.Class.{Class}
use Rattle.mt_edge.specs.Files.{Files}
use Rattle.mutest_words.specs.Words.{as_asm_options, as_asm_command}
use Rattle.mutest_engine.specs.Answers.{Answered, file_of}
use Rattle.mutest_engine.specs.Decided.{IsAssembledTo, written_class, assembly, asm_answer}
use Rattle.mutest_engine.specs.Stated.{or_refused, stated_class}
use Rattle.mutest_engine.specs.Steps.{and_then}
use Rattle.mutest_engine.specs.declared.refusal.Refusal.{Refusal}
use Rattle.mutest_engine.proofs.MadeLaws.{made_held, made_may, made_reads}
use Rattle.mutest_engine.proofs.SeenLaws.{makes_seen, stops_seen, unheld_seen}
use Rattle.mutest_engine.proofs.top_call.asm_answer.Goals as goal

abbrev class_answer : List ℕ → Class → Result Answered Refusal
class_answer out class = Ok (assembly out class)

abbrev file_answer : List ℕ → List ℕ → Result Answered Refusal
file_answer out bytes = Ok (written_class out bytes)

abbrev by_text : List ℕ → List ℕ → Result Answered Refusal
by_text out text = and_then (stated_class text) (class_answer out)

-- The text that is held states a class.
assembled : (held : Option Files) (path out text bytes : List ℕ) → IfSome held (λ files. file_of path files ≡ Ok text) → IsAssembledTo text bytes
    → IfSome held (λ files. and_then (file_of path files) (λ t. and_then (stated_class t) (class_answer out)) ≡ Ok (written_class out bytes))
assembled None path out text bytes read is = tt
assembled (Some files) path out text bytes read is =
    ap (λ x. and_then x (λ t. and_then (stated_class t) (class_answer out))) read
    ∙ ap (λ x. and_then (or_refused x) (class_answer out)) is.1
    ∙ ap (file_answer out) (sym is.3)

pub returns-clause-value : goal.returns-clause-value
returns-clause-value g c =
    let held = g.T.Tree.holds c.args.tree.now in
    let out = c.args.options.out.now in
    let bytes = c.in_ok-bytes.bytes in
    let is = subst (λ (t : List ℕ). IsAssembledTo t bytes) c.as_slice.ensures c.in_ok-bytes.ensures.bytes in
    let read = assembled held c.args.options.text.now out c.in_ok-text.text bytes c.in_ok-text.ensures.value is in
    made_held held (λ files. asm_answer (as_asm_options c.args.options) files) (written_class out bytes) c.written_class.result read c.written_class.ensures

pub returns-in_err-text-clause-seen : goal.returns-in_err-text-clause-seen
returns-in_err-text-clause-seen g c =
    let p = err_from_is_err_and c.from_residual.result c.from_residual.ensures.1 in
    rw (p.1, p.2) (unheld_seen c.args.options.text.now (by_text c.args.options.out.now) c.in_err-text.field-0.0 c.in_err-text.ensures.tree.1.0)

pub returns-in_err-bytes-clause-seen : goal.returns-in_err-bytes-clause-seen
returns-in_err-bytes-clause-seen g c =
    let out = c.args.options.out.now in
    let same = ap stated_class (sym c.as_slice.ensures) in
    let p = err_from_is_err_and c.from_residual-in_err-bytes.result c.from_residual-in_err-bytes.ensures.1 in
    rw p.1 (stops_seen c.args.options.text.now (by_text out) c.in_ok-text.text c.in_err-bytes.field-0.0 p.0 (λ r e. ap (λ x. and_then x (class_answer out)) (same ∙ c.in_err-bytes.ensures.refused r e)) p.2)

pub returns-clause-seen : goal.returns-clause-seen
returns-clause-seen g c =
    let out = c.args.options.out.now in
    let bytes = c.in_ok-bytes.bytes in
    let is = subst (λ (t : List ℕ). IsAssembledTo t bytes) c.as_slice.ensures c.in_ok-bytes.ensures.bytes in
    makes_seen c.args.options.text.now (by_text out) c.in_ok-text.text (written_class out bytes) c.written_class.result (ap (λ x. and_then (or_refused x) (class_answer out)) is.1 ∙ ap (file_answer out) (sym is.3)) c.written_class.ensures

pub returns-clause-answer : goal.returns-clause-answer
returns-clause-answer g c =
    let out = c.args.options.out.now in
    let bytes = c.in_ok-bytes.bytes in
    let is = c.in_ok-bytes.ensures.bytes in
    made_may (as_asm_command c.args.options) (written_class out bytes) c.written_class.result (c.as_slice.result.now, is.0, is.1, is.2, ap (written_class out) is.3) c.written_class.ensures

pub returns-clause-tree : goal.returns-clause-tree
returns-clause-tree g c = (c.in_ok-text.ensures.tree.0, made_reads (g.T.Tree.reading c.args.tree.now) (g.T.Tree.reading c.read_file.new.tree) (written_class c.args.options.out.now c.in_ok-bytes.bytes) c.written_class.result c.written_class.ensures)
