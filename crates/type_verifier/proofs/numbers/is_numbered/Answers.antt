use Rattle.std.proofs.Common.{◌∙◌, All, sym, subst, ap, arith}
use Rattle.std.proofs.lemmas.Option.{get_or_from_slice_get}
use Rattle.type_verifier.specs.ProgramTables.{HasShortCode}
use Rattle.type_verifier.proofs.LibraryLaws.{all_by_place, one_more_place}
use Rattle.type_verifier.proofs.numbers.is_numbered.Goals as goal

pub loop-id-preserved : goal.loop-id-preserved
loop-id-preserved c =
    let p = c.args.program.now in
    let i = c.info.result.now in
    let short = c.have_short_code.ensures.yes c.if-not-have_short_code.false in
    one_more_place (λ x. All HasShortCode x.linked.methods) p c.loop-id.id i c.info.ensures.place
    (subst (λ ms. All HasShortCode ms) (c.as_slice.ensures ∙ ap (λ l. l.methods) c.linked-linked.ensures.value) short) c.loop-id.invariant

pub returns-then-not-have_short_code-clause-no : goal.returns-then-not-have_short_code-clause-no
returns-then-not-have_short_code-clause-no c all =
    let p = c.args.program.now in
    let i = c.info.result.now in
    let at = get_or_from_slice_get p c.loop-id.id i i c.info.ensures.place in
    let here = subst (λ x. All HasShortCode x.linked.methods) at (all c.loop-id.id i (omega (arith, c.loop-id-test.true, c.len-count.ensures.value))) in
    sym c.if-not-have_short_code.true
    ∙ c.have_short_code.ensures.no (subst (λ ms. All HasShortCode ms) (sym (c.as_slice.ensures ∙ ap (λ l. l.methods) c.linked-linked.ensures.value)) here)

pub returns-clause-yes : goal.returns-clause-yes
returns-clause-yes c e =
    all_by_place (λ x. All HasShortCode x.linked.methods) c.args.program.now
    (λ k x l at. c.loop-id.invariant k x (omega (arith, l, c.loop-id-test.false, c.len-count.ensures.value)) at)
