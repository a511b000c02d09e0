use Rattle.std.proofs.Common.{◌∙◌, sym, ap, true, false}
use Rattle.program_rules.specs.declared.fault.Fault.TheVariants.{IncompatibleClassChangeError}
use Rattle.class_link.specs.View.{method_ref_of}
use Rattle.jvm_rows.specs.Rows.{throwing}
use Rattle.jvm_receivers.specs.Kinds.{is_barred, on_row}
use Rattle.jvm_receivers.specs.Targets.{receiving}
use Rattle.jvm_receivers.proofs.Rows.{bars_or_calls}
use Rattle.jvm_receivers.proofs.Selecting.{chosen}
use Rattle.jvm_receivers.proofs.invoking.call_resolved.Goals as goal

pub returns-then-is_barred-clause-row : goal.returns-then-is_barred-clause-row
returns-then-is_barred-clause-row c = λ m is found.
    let p = c.args.p.now in
    let r = method_ref_of c.args.reference.now in
    let k = c.args.how in
    let old = c.args.frames.now in
    bars_or_calls p k r m c.in_ok-thrown.thrown old old c.args.world.now c.throw.new.world
    (chosen p r (throwing IncompatibleClassChangeError) (receiving r (on_row p k r m)) (is_barred k m.flags) true c.in_ok-thrown.thrown old old c.args.world.now c.throw.new.world
    (ap (is_barred k) (c.flags_of-flags.ensures m is) ∙ sym c.is_barred.ensures ∙ c.if-is_barred.true) (c.in_ok-thrown.ensures.throws old r))

pub returns-clause-row : goal.returns-clause-row
returns-clause-row c = λ m is found.
    let p = c.args.p.now in
    let r = method_ref_of c.args.reference.now in
    let k = c.args.how in
    bars_or_calls p k r m c.in_ok-done.done c.args.frames.now c.call_target.new.frames c.args.world.now c.call_target.new.world
    (chosen p r (throwing IncompatibleClassChangeError) (receiving r (on_row p k r m)) (is_barred k m.flags) false c.in_ok-done.done c.args.frames.now c.call_target.new.frames c.args.world.now c.call_target.new.world
    (ap (is_barred k) (c.flags_of-flags.ensures m is) ∙ sym c.is_barred.ensures ∙ c.if-is_barred.false) (c.in_ok-done.ensures.row m is found))
