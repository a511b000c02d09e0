use Rattle.std.proofs.Common.{refl, length, arith}
use Rattle.std.proofs.lemmas.Option.{slice_get_read, slice_get_within}
use Rattle.machine_answers.specs.Landing.{HasRoom}
use Rattle.machine_answers.proofs.Rooms.{one_more}
use Rattle.machine_answers.proofs.landing.have_room.Goals as goal

pub loop-method-preserved : goal.loop-method-preserved
loop-method-preserved c =
    let ms = c.args.methods.now in
    let k = c.loop-method.method-index in
    let x = c.method-item.result in
    let there = slice_get_read ms (length ms) k x refl c.loop-method-test.true c.method-item.is in
    one_more HasRoom ms k x there (c.has_room.ensures c.if-not-has_room.false) c.loop-method.invariant

pub returns : goal.returns
returns c e k m at =
    c.loop-method.invariant k m (omega (arith, slice_get_within c.args.methods.now k m at, c.loop-method-test.false)) at
