use Rattle.jvm_act.proofs.Rows.{no_class}
use Rattle.jvm_act.proofs.classes.use_class.Goals as goal

pub returns-in-None-clause-row : goal.returns-in-None-clause-row
returns-in-None-clause-row c =
    no_class c.args.p.now c.args.class.0 c.args.index c.args.how c.args.frames.now c.args.world.now c.in-None.ensures.none
