use Rattle.class_table.proofs.Places.{clones_shared}
use Rattle.class_table.proofs.program.copy_classes.Goals as goal

pub returns : goal.returns
returns c = clones_shared c.args.classes.now.items c.in_ok-clone.field-0.items c.in_ok-clone.ensures.cases.0
