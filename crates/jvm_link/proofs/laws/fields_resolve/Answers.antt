use Rattle.program_rules.specs.Names.{class_behind}
use Rattle.program_rules.specs.Outlines.{outline_of, is_present}
use Rattle.program_rules.specs.Programs.{family}
use Rattle.program_rules.specs.Resolution.{resolve_field}
use Rattle.jvm_link.proofs.Naming.{absent_throws}
use Rattle.jvm_link.proofs.laws.fields_resolve.Goals as goal

pub returns : goal.returns
unfolding family resolve_field
returns c = λ p q w fs r go. absent_throws q _ fs (is_present (outline_of (p (class_behind r.class)))) (resolve_field r (family p (class_behind r.class))) _
