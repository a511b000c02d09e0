use Rattle.std.proofs.Common.{subst, ◌+◌, ◌<◌}
use Rattle.std.specs.Prelude.{◌^◌}
use Rattle.jvm_frames.specs.Frames.{NumberedFrame}
use Rattle.jvm_initialization.specs.Needs.{ReadiesTo}
use Rattle.jvm_natives.proofs.Readied.{frames_after, next_after, ready_call, turned_call}
use Rattle.jvm_natives.proofs.readying.call_readied.Goals as goal

pub call_stated-requires-clause-next : goal.call_stated-requires-clause-next
call_stated-requires-clause-next c =
    let p = c.args.p.now in
    let w = c.args.world.now in
    let u = c.make_ready.new.world in
    let old = c.args.frames.now in
    let mid = c.make_ready.new.frames in
    let a = c.args.site.class.0 in
    next_after p a old mid w u (λ (f : NumberedFrame). f.at + 1 < 2 ^ 64)
    (λ go. subst (λ d. ReadiesTo p w.limits a d old mid w u go) c.in-Ready.is (c.in_ok-readied.ensures.ready go)) c.requires.next

pub returns-in-Turned-clause-row : goal.returns-in-Turned-clause-row
returns-in-Turned-clause-row c = λ m is.
    let p = c.args.p.now in
    let w = c.args.world.now in
    let u = c.make_ready.new.world in
    let old = c.args.frames.now in
    let mid = c.make_ready.new.frames in
    turned_call p c.args.reference.now m c.args.site c.in-Turned.turn old mid w u is
    (λ go. subst (λ d. ReadiesTo p w.limits c.args.site.class.0 d old mid w u go) c.in-Turned.is (c.in_ok-readied.ensures.ready go))

pub returns-in_ok-turn-in-Ready-clause-row : goal.returns-in_ok-turn-in-Ready-clause-row
returns-in_ok-turn-in-Ready-clause-row c = λ m is.
    let p = c.args.p.now in
    let w = c.args.world.now in
    let u = c.make_ready.new.world in
    let old = c.args.frames.now in
    let mid = c.make_ready.new.frames in
    ready_call p c.args.reference.now m c.args.site c.in_ok-turn-in-Ready.turn old mid c.call_stated.new.frames w u c.call_stated.new.world is
    (λ go. subst (λ d. ReadiesTo p w.limits c.args.site.class.0 d old mid w u go) c.in-Ready.is (c.in_ok-readied.ensures.ready go))
    c.in_ok-readied.ensures.kept.limits
    (c.in_ok-turn-in-Ready.ensures.row m is)

pub returns-in_ok-turn-in-Ready-clause-frames : goal.returns-in_ok-turn-in-Ready-clause-frames
returns-in_ok-turn-in-Ready-clause-frames c =
    let p = c.args.p.now in
    let w = c.args.world.now in
    let u = c.make_ready.new.world in
    let old = c.args.frames.now in
    let mid = c.make_ready.new.frames in
    let a = c.args.site.class.0 in
    frames_after p a old mid c.call_stated.new.frames w u
    (λ go. subst (λ d. ReadiesTo p w.limits a d old mid w u go) c.in-Ready.is (c.in_ok-readied.ensures.ready go))
    c.in_ok-turn-in-Ready.ensures.frames
