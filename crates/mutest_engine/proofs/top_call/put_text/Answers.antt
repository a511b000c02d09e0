use Rattle.std.proofs.Common.{◌≡◌, [], Ok, sym, inl, ⊎_elim, subst}
use Rattle.std.specs.Prelude.{IsTrue, true, false}
use Rattle.mt_edge.specs.Pieces.{GrowsBy}
use Rattle.mutest_engine.specs.Ends.{line_of, Got, Prints}
use Rattle.mutest_engine.specs.Answers.{answered}
use Rattle.mutest_engine.specs.declared.status.Status.{Status}
use Rattle.mutest_engine.specs.declared.status.Status.TheVariants.{WriteFault, WantOfMemory}
use Rattle.mutest_engine.specs.declared.status.Output.TheVariants.{Text}
use Rattle.mutest_engine.proofs.Ends.{part_then, part_then_part, broken_off, cut_text}
use Rattle.mutest_engine.proofs.top_call.put_text.Goals as goal

pub returns-in-Err-Failed-clause-printed : goal.returns-in-Err-Failed-clause-printed
returns-in-Err-Failed-clause-printed g c =
    let text = c.args.answer.now.text in
    let some : (text ≡ []) → ⊥ = λ e. let told : false ≡ true = subst IsTrue c.if-is_empty.false (c.is_empty.ensures.1 e) in absurd cc in
    let fault = WriteFault Text 1 in
    let f0 = g.S.Sink.faults c.args.out.now in
    let f1 = g.S.Sink.faults c.put.new.self in
    let f2 = g.S.Sink.faults c.tell.new.out in
    let w0 = g.S.Sink.written c.args.out.now in
    let w1 = g.S.Sink.written c.put.new.self in
    let w2 = g.S.Sink.written c.tell.new.out in
    let cut : GrowsBy w0 w1 text = subst (GrowsBy w0 w1) c.as_slice.ensures c.in-Err-Failed.ensures.err in
    let at = λ (s : Status). Prints f0 f2 w0 w2 (Ok (answered c.args.answer.now)) s in
    ⊎_elim
    (λ (got : Got f1 f2 w1 w2 (line_of fault)).
    let broken = part_then f1 f2 w0 w1 w2 text (line_of fault) cut got in
    ⊎_elim
    (λ (is : c.tell.result ≡ fault). subst at (sym is) broken)
    (λ (is : c.tell.result ≡ WantOfMemory). subst at (sym is) (inl (broken_off text w0 w2 some broken)))
    c.tell.ensures.same)
    (λ (lost : (c.tell.result ≡ WantOfMemory) × GrowsBy w1 w2 (line_of fault)).
    subst at (sym lost.0) (inl (broken_off text w0 w2 some (part_then_part w0 w1 w2 text (line_of fault) cut lost.1))))
    c.tell.ensures.printed

pub returns-in-Err-Memory-clause-printed : goal.returns-in-Err-Memory-clause-printed
returns-in-Err-Memory-clause-printed g c =
    let text = c.args.answer.now.text in
    let some : (text ≡ []) → ⊥ = λ e. let told : false ≡ true = subst IsTrue c.if-is_empty.false (c.is_empty.ensures.1 e) in absurd cc in
    let w0 = g.S.Sink.written c.args.out.now in
    let w1 = g.S.Sink.written c.put.new.self in
    cut_text w0 w1 (answered c.args.answer.now) some (subst (GrowsBy w0 w1) c.as_slice.ensures c.in-Err-Memory.ensures.err)
