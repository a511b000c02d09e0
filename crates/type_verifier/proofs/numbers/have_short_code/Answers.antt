use Rattle.std.proofs.Common.{◌∙◌, refl, sym, subst, length, arith}
use Rattle.std.proofs.lemmas.Option.{get_or_from_slice_get, slice_get_read}
use Rattle.type_verifier.specs.ProgramTables.{HasShortCode}
use Rattle.type_verifier.proofs.LibraryLaws.{all_by_place, one_more_place}
use Rattle.type_verifier.proofs.numbers.have_short_code.Goals as goal

pub loop-method-preserved : goal.loop-method-preserved
loop-method-preserved c =
    let ms = c.args.methods.now in
    let k = c.loop-method.method-index in
    let x = c.method-item.result in
    let there = slice_get_read ms (length ms) k x refl c.loop-method-test.true c.method-item.is in
    one_more_place HasShortCode ms k x there (c.has_short_code.ensures.yes c.if-not-has_short_code.false) c.loop-method.invariant

pub returns-then-not-has_short_code-clause-no : goal.returns-then-not-has_short_code-clause-no
returns-then-not-has_short_code-clause-no c all =
    let ms = c.args.methods.now in
    let k = c.loop-method.method-index in
    let x = c.method-item.result in
    let there = slice_get_read ms (length ms) k x refl c.loop-method-test.true c.method-item.is in
    sym c.if-not-has_short_code.true
    ∙ c.has_short_code.ensures.no (subst HasShortCode (get_or_from_slice_get ms k x x there) (all k x c.loop-method-test.true))

pub returns-clause-yes : goal.returns-clause-yes
returns-clause-yes c e =
    let ms = c.args.methods.now in
    all_by_place HasShortCode ms (λ k x l at. c.loop-method.invariant k x (omega (arith, l, c.loop-method-test.false)) at)
