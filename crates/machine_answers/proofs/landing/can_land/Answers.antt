use Rattle.std.proofs.Common.{◌∙◌, subst, ap, arith}
use Rattle.std.proofs.lemmas.Option.{slice_get_within}
use Rattle.machine_answers.specs.Landing.{HaveRoom}
use Rattle.machine_answers.proofs.Rooms.{one_more, room_by_name}
use Rattle.machine_answers.proofs.landing.can_land.Goals as goal

pub loop-id-preserved : goal.loop-id-preserved
loop-id-preserved c =
    let p = c.args.program.now in
    let i = c.info.result.now in
    let room = c.have_room.ensures c.if-not-have_room.false in
    one_more (λ x. HaveRoom x.linked.methods) p c.loop-id.id i c.info.ensures.place
    (subst HaveRoom (c.as_slice.ensures ∙ ap (λ l. l.methods) c.linked-linked.ensures.value) room) c.loop-id.invariant

pub returns : goal.returns
returns c e =
    let p = c.args.program.now in
    room_by_name p (λ k x at. c.loop-id.invariant k x (omega (arith, slice_get_within p k x at, c.loop-id-test.false, c.len-count.ensures.value)) at)
