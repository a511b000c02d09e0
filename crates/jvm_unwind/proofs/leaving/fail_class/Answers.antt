use Rattle.std.proofs.Common.{◌∙◌, sym}
use Rattle.jvm_unwind.proofs.Left.{replaced}
use Rattle.jvm_unwind.proofs.leaving.fail_class.Goals as goal

pub returns-clause-leaves : goal.returns-clause-leaves
returns-clause-leaves c =
    let w = c.args.world.now in
    replaced c.args.p.now w c.mark.new.self w.limits c.args.class.0 c.args.object c.args.thrown.now c.in_ok-mark.ensures.moves c.in_ok-replaced.replaced c.throw.new.self
    (sym c.if-error.false ∙ c.in_ok-error.ensures) c.in_ok-mark.ensures.kept.limits c.in_ok-replaced.ensures.throws
