use Rattle.std.proofs.Common.{◌∙◌, sym, ap}
use Rattle.program_rules.specs.Resolution.{is_initializer_name}
use Rattle.class_link.specs.View.{method_ref_of}
use Rattle.jvm_receivers.proofs.SpecialCalls.{on_initializer, on_other}
use Rattle.jvm_receivers.proofs.special.call_special.Goals as goal

pub returns-then-is_initializer-clause-row : goal.returns-then-is_initializer-clause-row
returns-then-is_initializer-clause-row c = λ m x is.
    let r = method_ref_of c.args.reference.now in
    on_initializer c.args.p.now r m x c.args.args.count c.in_ok-done.done c.args.frames.now c.call_found.new.frames c.args.world.now c.call_found.new.world
    (ap is_initializer_name (sym c.deref.ensures) ∙ sym c.is_initializer.ensures ∙ c.if-is_initializer.true) (c.in_ok-done.ensures.row m r is)

pub returns-clause-row : goal.returns-clause-row
returns-clause-row c = λ m x is.
    let r = method_ref_of c.args.reference.now in
    on_other c.args.p.now r m x c.args.args.count c.in_ok-done-2.done c.args.frames.now c.call_looked.new.frames c.args.world.now c.call_looked.new.world
    (ap is_initializer_name (sym c.deref.ensures) ∙ sym c.is_initializer.ensures ∙ c.if-is_initializer.false) (c.in_ok-done-2.ensures.row m is)
