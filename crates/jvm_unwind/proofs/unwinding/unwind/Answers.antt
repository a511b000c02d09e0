use Rattle.std.proofs.Common.{sym, subst, None, Some}
use Rattle.jvm_frames.specs.Frames.{IsAt}
use Rattle.jvm_unwind.specs.Thrown.{IsClassIn}
use Rattle.jvm_unwind.specs.Unwinding.{IsHandled, Searches, Passes, popping}
use Rattle.jvm_unwind.proofs.Left.{with_some}
use Rattle.jvm_unwind.proofs.Steps.{of_frame, landed, popped}
use Rattle.jvm_unwind.proofs.unwinding.unwind.Goals as goal

pub returns-in-Some-to-clause-row : goal.returns-in-Some-to-clause-row
returns-in-Some-to-clause-row c =
    let p = c.args.p.now in
    let w = c.args.world.now in
    let u = c.handler.new.world in
    let s = c.args.frames.now in
    let h = c.args.handlers.now in
    let t = c.in-Some-2.thrown in
    let at = c.in-Some.place.at in
    let k = with_some s.frame (IsAt c.in-Some.place.class.0 c.in-Some.place.method at) c.in-Some.ensures.some in
    let one = subst (λ rs. Searches p t rs at w c.in_ok-to.to u) c.as_slice.ensures.value c.in_ok-to.ensures.found in
    let two = subst (λ o. Searches p t h.rows.items at w o u) c.in-Some-to.is one in
    let found = subst (λ n. Searches p t h.rows.items n w (Some c.in-Some-to.to) u) (sym k.2.at) two in
    landed p w.limits c.args.object t h k.0 s w u (subst (IsClassIn p w c.args.object) c.in-Some-2.is c.in_ok-thrown.ensures)
    (of_frame s.frame k.0 (IsHandled p h) k.1 c.requires.frame) c.in-Some-to.to c.land.new.self k.1 found c.land.ensures

pub returns-clause-row : goal.returns-clause-row
returns-clause-row c =
    let p = c.args.p.now in
    let w = c.args.world.now in
    let u = c.handler.new.world in
    let z = c.pop.new.world in
    let s = c.args.frames.now in
    let h = c.args.handlers.now in
    let t = c.in-Some-2.thrown in
    let x = c.args.object in
    let at = c.in-Some.place.at in
    let class = c.initialized-class.result in
    let y = c.in_ok-left-in-None.left in
    let k = with_some s.frame (IsAt c.in-Some.place.class.0 c.in-Some.place.method at) c.in-Some.ensures.some in
    let one = subst (λ rs. Searches p t rs at w c.in_ok-to.to u) c.as_slice.ensures.value c.in_ok-to.ensures.found in
    let two = subst (λ o. Searches p t h.rows.items at w o u) c.in-None.is one in
    let found = subst (λ n. Searches p t h.rows.items n w None u) (sym k.2.at) two in
    popped p w.limits x t h k.0 s c.pop.new.frames w u z (subst (IsClassIn p w x) c.in-Some-2.is c.in_ok-thrown.ensures)
    (of_frame s.frame k.0 (IsHandled p h) k.1 c.requires.frame) class c.in-Some.place.class y c.of.result k.1 c.initialized-class.ensures (sym k.2.class) found c.in_ok-left-in-None.ensures.left
    (subst (λ l. Passes p u z s.callers y (popping p l class x t)) c.in_ok-to.ensures.kept.limits c.in_ok-left-in-None.ensures.passes) c.of.ensures.some c.of.ensures.none
