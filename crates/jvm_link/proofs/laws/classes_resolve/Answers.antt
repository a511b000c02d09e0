use Rattle.program_rules.specs.Names.{class_behind}
use Rattle.program_rules.specs.Outlines.{outline_of, is_present}
use Rattle.program_rules.specs.Faults.{Found}
use Rattle.program_rules.specs.Programs.{family}
use Rattle.jvm_link.proofs.Naming.{absent_throws}
use Rattle.jvm_link.proofs.laws.classes_resolve.Goals as goal

pub returns : goal.returns
unfolding family
returns c = λ p q w fs n go. absent_throws q _ fs (is_present (outline_of (p (class_behind n)))) (Found (family p (class_behind n))) _
