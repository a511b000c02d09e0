use Rattle.std.proofs.Common.{sym, subst}
use Rattle.jvm_rows.specs.Effects.{Runs}
use Rattle.jvm_members.specs.FieldRows.{accessing}
use Rattle.jvm_members.proofs.statics.access_ready.Goals as goal

pub returns-in-Get-clause-row : goal.returns-in-Get-clause-row
returns-in-Get-clause-row c = λ x a is.
    let w = c.args.world.now in
    subst (λ k. Runs c.args.p.now (accessing k x a) c.get_static-done.result c.args.frames.now c.get_static-done.new.frames w w) (sym c.in-Get.is) (c.get_static-done.ensures x a is)

pub returns-in_ok-done-in-Put-clause-row : goal.returns-in_ok-done-in-Put-clause-row
returns-in_ok-done-in-Put-clause-row c = λ x a is.
    subst (λ k. Runs c.args.p.now (accessing k x a) c.in_ok-done-in-Put.done c.args.frames.now c.put_static.new.frames c.args.world.now c.put_static.new.world) (sym c.in-Put.is) (c.in_ok-done-in-Put.ensures.row x a is)
