use Rattle.std.proofs.Common.{sym, subst}
use Rattle.class_link.specs.View.{method_ref_of}
use Rattle.jvm_invokes.specs.Invoked.{Invokes}
use Rattle.jvm_receivers.specs.Kinds.{on_row, StandsFor}
use Rattle.jvm_receivers.specs.Targets.{received}
use Rattle.jvm_receivers.proofs.invoking.call_on.Goals as goal

pub returns-in_ok-done-in-Special-clause-row : goal.returns-in_ok-done-in-Special-clause-row
returns-in_ok-done-in-Special-clause-row c = λ m is found.
    let p = c.args.p.now in
    let r = method_ref_of c.args.reference.now in
    let x = c.args.object in
    subst (λ k. Invokes p r (received x c.args.args.count (on_row p k r m)) c.in_ok-done-in-Special.done c.args.frames.now c.call_special.new.frames c.args.world.now c.call_special.new.world)
    (sym c.in-Special.is) (c.in_ok-done-in-Special.ensures.row m x is)

pub returns-in_ok-done-in-Virtual-clause-row : goal.returns-in_ok-done-in-Virtual-clause-row
returns-in_ok-done-in-Virtual-clause-row c = λ m is found.
    let p = c.args.p.now in
    let r = method_ref_of c.args.reference.now in
    let x = c.args.object in
    subst (λ k. Invokes p r (received x c.args.args.count (on_row p k r m)) c.in_ok-done-in-Virtual.done c.args.frames.now c.call_virtual.new.frames c.args.world.now c.call_virtual.new.world)
    (sym c.in-Virtual.is) (c.in_ok-done-in-Virtual.ensures.row m is found)

pub returns-in_ok-done-in-Interface-clause-row : goal.returns-in_ok-done-in-Interface-clause-row
returns-in_ok-done-in-Interface-clause-row c = λ m is found.
    let p = c.args.p.now in
    let r = method_ref_of c.args.reference.now in
    let x = c.args.object in
    subst (λ k. Invokes p r (received x c.args.args.count (on_row p k r m)) c.in_ok-done-in-Interface.done c.args.frames.now c.call_interface.new.frames c.args.world.now c.call_interface.new.world)
    (sym c.in-Interface.is) c.in_ok-done-in-Interface.ensures.row

pub call_special-requires-clause-class : goal.call_special-requires-clause-class
call_special-requires-clause-class c =
    (subst (λ k. StandsFor c.args.p.now k c.args.class.0 c.args.frames.now) c.in-Special.is c.requires.stands).0

pub call_special-requires-clause-runs : goal.call_special-requires-clause-runs
call_special-requires-clause-runs c =
    (subst (λ k. StandsFor c.args.p.now k c.args.class.0 c.args.frames.now) c.in-Special.is c.requires.stands).1
