use Rattle.std.proofs.Common.{subst}
use Rattle.jvm_link.specs.Named.{ResolvesClass}
use Rattle.jvm_members.proofs.Classed.{class_used, class_lost}
use Rattle.jvm_members.proofs.classes.use_class.Goals as goal

pub returns-in_ok-done-in-Ok-clause-row : goal.returns-in_ok-done-in-Ok-clause-row
returns-in_ok-done-in-Ok-clause-row c =
    let p = c.args.p.now in
    let n = c.args.name.now in
    class_used p n c.args.how c.in-Ok.field-0 c.in_ok-done-in-Ok.done c.args.frames.now c.use_resolved.new.frames c.args.world.now c.resolve_class.new.world c.use_resolved.new.world
    (subst (ResolvesClass p n) c.in-Ok.is c.in_ok-found.ensures.answer) c.in_ok-found.ensures.moves c.in_ok-found.ensures.kept.limits
    c.in_ok-done-in-Ok.ensures.row

pub returns-in_ok-thrown-in-Err-clause-row : goal.returns-in_ok-thrown-in-Err-clause-row
returns-in_ok-thrown-in-Err-clause-row c =
    let p = c.args.p.now in
    let n = c.args.name.now in
    let old = c.args.frames.now in
    class_lost p n c.args.how c.in-Err.fault c.in_ok-thrown-in-Err.thrown old old c.args.world.now c.resolve_class.new.world c.throw.new.world
    (subst (ResolvesClass p n) c.in-Err.is c.in_ok-found.ensures.answer) c.in_ok-found.ensures.moves c.in_ok-found.ensures.kept.limits
    (c.in_ok-thrown-in-Err.ensures.throws old)
