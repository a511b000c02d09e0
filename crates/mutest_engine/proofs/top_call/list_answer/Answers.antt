use Rattle.std.proofs.Common.{◌≡◌, ◌∙◌, ℕ, List, Option, None, Some, Result, Ok, refl, sym, ap}
use Rattle.std.specs.Prelude.{IfSome}
use Rattle.std.proofs.lemmas.Result.{err_from_is_err_and}
use Rattle.class_model.specs.declared.class.Class.{Class}
use Rattle.mt_edge.specs.Files.{Files}
use Rattle.mutest_words.specs.Words.{list_class}
use Rattle.mutest_engine.specs.Answers.{Answered, file_of, spelled_class}
use Rattle.mutest_engine.specs.Decided.{list_answer, listing}
use Rattle.mutest_engine.specs.Steps.{and_then}
use Rattle.mutest_engine.specs.declared.refusal.Refusal.{Refusal}
use Rattle.mutest_engine.proofs.MadeLaws.{made_held, made_may, made_reads}
use Rattle.mutest_engine.proofs.SeenLaws.{makes_seen, stops_seen, unheld_seen}
use Rattle.mutest_engine.proofs.top_call.list_answer.Goals as goal

abbrev class_answer : Class → Result Answered Refusal
class_answer class = Ok (listing class)

abbrev by_bytes : List ℕ → List ℕ → Result Answered Refusal
by_bytes path bytes = and_then (spelled_class path bytes) class_answer

-- The file's bytes spell a class.
listed : (held : Option Files) (path bytes : List ℕ) (class : Class) → IfSome held (λ files. file_of path files ≡ Ok bytes) → spelled_class path bytes ≡ Ok class → IfSome held (λ files. list_answer path files ≡ Ok (listing class))
listed None path bytes class read spelled = tt
listed (Some files) path bytes class read spelled =
    ap (λ x. and_then x (λ b. and_then (spelled_class path b) class_answer)) read
    ∙ ap (λ x. and_then x class_answer) spelled

pub returns-clause-value : goal.returns-clause-value
returns-clause-value g c =
    let path = c.args.path.now in
    let class = c.in_ok-class.class in
    let bytes = ap (λ b. spelled_class path b) (sym c.as_slice.ensures) in
    let named = ap (λ p. spelled_class p c.as_slice.result.now) (sym c.as_bytes.ensures.value) in
    let read = listed (g.T.Tree.holds c.args.tree.now) path c.in_ok-bytes.bytes class c.in_ok-bytes.ensures.value (bytes ∙ named ∙ c.in_ok-class.ensures.value) in
    made_held (g.T.Tree.holds c.args.tree.now) (λ files. list_answer path files) (listing class) c.listing.result read c.listing.ensures

pub returns-in_err-bytes-clause-seen : goal.returns-in_err-bytes-clause-seen
returns-in_err-bytes-clause-seen g c =
    let p = err_from_is_err_and c.from_residual.result c.from_residual.ensures.1 in
    rw (p.1, p.2) (unheld_seen c.args.path.now (by_bytes c.args.path.now) c.in_err-bytes.field-0.0 c.in_err-bytes.ensures.tree.1.0)

pub returns-in_err-class-clause-seen : goal.returns-in_err-class-clause-seen
returns-in_err-class-clause-seen g c =
    let path = c.args.path.now in
    let bytes = ap (λ b. spelled_class path b) (sym c.as_slice.ensures) in
    let named = ap (λ p. spelled_class p c.as_slice.result.now) (sym c.as_bytes.ensures.value) in
    let p = err_from_is_err_and c.from_residual-in_err-class.result c.from_residual-in_err-class.ensures.1 in
    rw p.1 (stops_seen path (by_bytes path) c.in_ok-bytes.bytes c.in_err-class.field-0.0 p.0 (λ r e. ap (λ x. and_then x class_answer) (bytes ∙ named ∙ c.in_err-class.ensures.value r e)) p.2)

pub returns-clause-seen : goal.returns-clause-seen
returns-clause-seen g c =
    let path = c.args.path.now in
    let bytes = ap (λ b. spelled_class path b) (sym c.as_slice.ensures) in
    let named = ap (λ p. spelled_class p c.as_slice.result.now) (sym c.as_bytes.ensures.value) in
    makes_seen path (by_bytes path) c.in_ok-bytes.bytes (listing c.in_ok-class.class) c.listing.result (ap (λ x. and_then x class_answer) (bytes ∙ named ∙ c.in_ok-class.ensures.value)) c.listing.ensures

pub returns-clause-answer : goal.returns-clause-answer
returns-clause-answer g c = made_may (list_class c.args.path.now) (listing c.in_ok-class.class) c.listing.result (c.in_ok-class.class, refl) c.listing.ensures

pub returns-clause-tree : goal.returns-clause-tree
returns-clause-tree g c = (c.in_ok-bytes.ensures.tree.0, made_reads (g.T.Tree.reading c.args.tree.now) (g.T.Tree.reading c.read_file.new.tree) (listing c.in_ok-class.class) c.listing.result c.listing.ensures)
