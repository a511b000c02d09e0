use Rattle.class_link.specs.View.{method_ref_of}
use Rattle.jvm_invokes.specs.declared.invoked.Invoked.TheVariants as invoked
use Rattle.jvm_natives.proofs.Left.{left_is, turned_of}
use Rattle.jvm_natives.proofs.completing.complete.Goals as goal

pub returns-in-Turned-clause-row : goal.returns-in-Turned-clause-row
returns-in-Turned-clause-row c =
    turned_of c.args.p.now (method_ref_of c.args.reference.now) c.args.left c.in-Turned.turn c.args.frames.now c.args.world.now c.in-Turned.is

pub returns-in_ok-turn-in-Readies-clause-row : goal.returns-in_ok-turn-in-Readies-clause-row
returns-in_ok-turn-in-Readies-clause-row c =
    left_is c.args.p.now (method_ref_of c.args.reference.now) c.args.left (invoked.Readies c.in-Readies.site) c.in_ok-turn-in-Readies.turn
    c.args.frames.now c.complete_static.new.frames c.args.world.now c.complete_static.new.world
    c.in-Readies.is c.in_ok-turn-in-Readies.ensures.row

pub returns-in_ok-turn-in-Native-clause-row : goal.returns-in_ok-turn-in-Native-clause-row
returns-in_ok-turn-in-Native-clause-row c =
    left_is c.args.p.now (method_ref_of c.args.reference.now) c.args.left (invoked.Native c.in-Native.site c.in-Native.args) c.in_ok-turn-in-Native.turn
    c.args.frames.now c.complete_native.new.frames c.args.world.now c.complete_native.new.world
    c.in-Native.is (c.in_ok-turn-in-Native.ensures.row (method_ref_of c.args.reference.now))

pub returns-in_ok-turn-in-Copies-clause-row : goal.returns-in_ok-turn-in-Copies-clause-row
returns-in_ok-turn-in-Copies-clause-row c =
    left_is c.args.p.now (method_ref_of c.args.reference.now) c.args.left (invoked.Copies c.in-Copies.args) c.in_ok-turn-in-Copies.turn
    c.args.frames.now c.complete_clone.new.frames c.args.world.now c.complete_clone.new.world
    c.in-Copies.is (c.in_ok-turn-in-Copies.ensures.row (method_ref_of c.args.reference.now))
