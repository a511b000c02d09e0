use Rattle.jvm_natives.proofs.Left.{native_called, native_nowhere}
use Rattle.jvm_natives.proofs.completing.complete_native.Goals as goal

pub returns-then-not-is_site-clause-row : goal.returns-then-not-is_site-clause-row
returns-then-not-is_site-clause-row c = λ r.
    native_nowhere c.args.p.now r c.args.site c.args.left c.args.frames.now c.args.world.now
    (c.is_site.ensures.nowhere c.if-not-is_site.true)

pub returns-in_ok-turn-in-Some-clause-row : goal.returns-in_ok-turn-in-Some-clause-row
returns-in_ok-turn-in-Some-clause-row c = λ r.
    native_called c.args.p.now r c.args.site c.args.left c.in-Some.args.count c.in_ok-turn-in-Some.turn
    c.args.frames.now c.call_site.new.frames c.args.world.now c.call_site.new.world
    c.in-Some.ensures.count (λ m s is. c.in_ok-turn-in-Some.ensures.row m s is)
