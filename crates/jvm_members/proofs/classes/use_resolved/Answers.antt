use Rattle.std.proofs.Common.{sym, subst}
use Rattle.jvm_rows.specs.Effects.{Runs}
use Rattle.jvm_members.specs.ClassRows.{HasTested, resolved_row}
use Rattle.jvm_members.proofs.classes.use_resolved.Goals as goal

pub returns-in_ok-done-in-Load-clause-row : goal.returns-in_ok-done-in-Load-clause-row
returns-in_ok-done-in-Load-clause-row c =
    subst (λ k. Runs c.args.p.now (resolved_row c.args.p.now c.args.name.now k) c.in_ok-done-in-Load.done c.args.frames.now c.load_class.new.frames c.args.world.now c.load_class.new.world)
    (sym c.in-Load.is) c.in_ok-done-in-Load.ensures.row

pub returns-in_ok-done-in-MakeArray-clause-row : goal.returns-in_ok-done-in-MakeArray-clause-row
returns-in_ok-done-in-MakeArray-clause-row c =
    subst (λ k. Runs c.args.p.now (resolved_row c.args.p.now c.args.name.now k) c.in_ok-done-in-MakeArray.done c.args.frames.now c.make_references.new.frames c.args.world.now c.make_references.new.world)
    (sym c.in-MakeArray.is) c.in_ok-done-in-MakeArray.ensures.row

pub returns-in_ok-done-in-Cast-clause-row : goal.returns-in_ok-done-in-Cast-clause-row
returns-in_ok-done-in-Cast-clause-row c =
    subst (λ k. Runs c.args.p.now (resolved_row c.args.p.now c.args.name.now k) c.in_ok-done-in-Cast.done c.args.frames.now c.check_cast.new.frames c.args.world.now c.check_cast.new.world)
    (sym c.in-Cast.is) c.in_ok-done-in-Cast.ensures.row

pub returns-in_ok-done-in-Test-clause-row : goal.returns-in_ok-done-in-Test-clause-row
returns-in_ok-done-in-Test-clause-row c =
    subst (λ k. Runs c.args.p.now (resolved_row c.args.p.now c.args.name.now k) c.in_ok-done-in-Test.done c.args.frames.now c.test_instance.new.frames c.args.world.now c.args.world.now)
    (sym c.in-Test.is) c.in_ok-done-in-Test.ensures

pub test_instance-requires-clause-there : goal.test_instance-requires-clause-there
test_instance-requires-clause-there c = subst (λ k. HasTested k c.args.frames.now) c.in-Test.is c.requires.there
