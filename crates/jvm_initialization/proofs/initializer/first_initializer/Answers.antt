use Rattle.std.proofs.Common.{refl, length}
use Rattle.std.proofs.lemmas.Option.{slice_get_read}
use Rattle.jvm_initialization.proofs.Found.{found}
use Rattle.jvm_initialization.proofs.initializer.first_initializer.Goals as goal

pub returns-in-Some-clause-some : goal.returns-in-Some-clause-some
returns-in-Some-clause-some c = λ es.
    let ms = c.args.methods.now in
    let k = c.loop-place.place in
    let m = c.index-methods-place.result in
    found es ms k m c.in-Some.code c.initializer_at.result (c.loop-place.invariant es)
    (slice_get_read ms (length ms) k m refl c.loop-place-test.true c.index-methods-place.is)
    (c.in-Some.ensures.some es) c.initializer_at.ensures
