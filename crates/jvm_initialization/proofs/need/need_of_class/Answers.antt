use Rattle.std.proofs.Common.{sym, subst}
use Rattle.class_family.specs.Families.{AreAcross}
use Rattle.jvm_initialization.proofs.Needing.{across_need}
use Rattle.jvm_initialization.proofs.need.need_of_class.Goals as goal

pub first_need-need-requires-clause-ids : goal.first_need-need-requires-clause-ids
first_need-need-requires-clause-ids c =
    (subst (AreAcross c.args.p.now c.highest-here.result.0) (sym c.classes-classes.ensures) c.in_ok-across.ensures).within

pub returns-clause-need : goal.returns-clause-need
returns-clause-need c =
    let p = c.args.p.now in
    across_need p c.args.world.now c.args.class.0 c.highest-here.result.0 c.classes-classes.result.now c.first_need-need.result c.highest-here.ensures.same c.highest-here.ensures.across
    (subst (AreAcross p c.highest-here.result.0) (sym c.classes-classes.ensures) c.in_ok-across.ensures) c.first_need-need.ensures.need
