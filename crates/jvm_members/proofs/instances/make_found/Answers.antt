use Rattle.std.proofs.Common.{subst}
use Rattle.jvm_initialization.specs.declared.ready.Readied.{Readied}
use Rattle.jvm_members.proofs.Turned.{ReadyFor, next_kept}
use Rattle.jvm_members.proofs.Made.{no_array, made_turned, made_used, made_frames}
use Rattle.jvm_members.proofs.instances.make_found.Goals as goal

pub returns-then-names_array-clause-row : goal.returns-then-names_array-clause-row
returns-then-names_array-clause-row c =
    no_array c.args.p.now c.args.name.now c.names_array.result c.args.frames.now c.args.world.now c.names_array.ensures c.if-names_array.true

pub returns-in_ok-done-in-Ready-clause-row : goal.returns-in_ok-done-in-Ready-clause-row
returns-in_ok-done-in-Ready-clause-row c =
    let p = c.args.p.now in
    let old = c.args.frames.now in
    let mid = c.make_ready.new.frames in
    let w = c.args.world.now in
    let m = c.make_ready.new.world in
    made_used p c.args.name.now c.args.class c.names_array.result c.in_ok-done-in-Ready.done c.turn_of-turn.result old mid c.make_one.new.frames w m c.make_one.new.world
    c.requires.named c.names_array.ensures c.if-names_array.false
    (subst (λ (r : Readied). ReadyFor p c.args.class.0 r old mid w m) c.in-Ready.is c.in_ok-readied.ensures.ready)
    c.in_ok-readied.ensures.kept.limits c.turn_of-turn.ensures.turn c.in_ok-done-in-Ready.ensures.row

pub returns-in_ok-done-in-Ready-clause-frames : goal.returns-in_ok-done-in-Ready-clause-frames
returns-in_ok-done-in-Ready-clause-frames c =
    let p = c.args.p.now in
    let old = c.args.frames.now in
    let mid = c.make_ready.new.frames in
    let w = c.args.world.now in
    let m = c.make_ready.new.world in
    made_frames p c.args.class.0 c.in_ok-done-in-Ready.done old mid c.make_one.new.frames w m c.make_one.new.world
    (subst (λ (r : Readied). ReadyFor p c.args.class.0 r old mid w m) c.in-Ready.is c.in_ok-readied.ensures.ready)
    c.in_ok-done-in-Ready.ensures.row

pub returns-in-Turned-clause-row : goal.returns-in-Turned-clause-row
returns-in-Turned-clause-row c =
    let p = c.args.p.now in
    let old = c.args.frames.now in
    let new = c.make_ready.new.frames in
    let w = c.args.world.now in
    let u = c.make_ready.new.world in
    made_turned p c.args.name.now c.args.class c.names_array.result c.in-Turned.turn old new w u
    c.requires.named c.names_array.ensures c.if-names_array.false
    (subst (λ (r : Readied). ReadyFor p c.args.class.0 r old new w u) c.in-Turned.is c.in_ok-readied.ensures.ready)

pub make_one-requires-clause-next : goal.make_one-requires-clause-next
make_one-requires-clause-next c =
    let p = c.args.p.now in
    let old = c.args.frames.now in
    let mid = c.make_ready.new.frames in
    let w = c.args.world.now in
    let m = c.make_ready.new.world in
    next_kept p c.args.class.0 old mid w m
    (subst (λ (r : Readied). ReadyFor p c.args.class.0 r old mid w m) c.in-Ready.is c.in_ok-readied.ensures.ready) c.requires.next
