use Rattle.jvm_link.proofs.Naming.{class_here}
use Rattle.jvm_link.proofs.classes.resolve_class.Goals as goal

pub returns-in-Some-clause-class : goal.returns-in-Some-clause-class
returns-in-Some-clause-class c =
    class_here c.args.program.now c.args.name.now _ _ _ c.in_ok-behind.ensures c.in-Some.ensures.within c.in-Some.ensures.named c.info-class.ensures.class
