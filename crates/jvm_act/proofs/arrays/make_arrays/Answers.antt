use Rattle.std.proofs.Common.{subst}
use Rattle.jvm_link.specs.Named.{ResolvesClass}
use Rattle.jvm_act.proofs.Rows.{arrays_lost}
use Rattle.jvm_act.proofs.arrays.make_arrays.Goals as goal

pub returns-in_ok-thrown-in-Err-clause-row : goal.returns-in_ok-thrown-in-Err-clause-row
returns-in_ok-thrown-in-Err-clause-row c =
    let p = c.args.p.now in
    let n = c.args.name.now in
    let old = c.args.frames.now in
    arrays_lost p n c.args.dimensions c.in-Err.fault c.in_ok-thrown-in-Err.thrown old old c.args.world.now c.resolve_class.new.world c.throw.new.world
    (subst (ResolvesClass p n) c.in-Err.is c.in_ok-found.ensures.answer) c.in_ok-found.ensures.moves c.in_ok-found.ensures.kept.limits
    (c.in_ok-thrown-in-Err.ensures.throws old)
