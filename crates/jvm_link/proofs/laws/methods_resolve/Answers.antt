use Rattle.program_rules.specs.Names.{class_behind}
use Rattle.program_rules.specs.Outlines.{outline_of, is_present}
use Rattle.std.proofs.Common.{◌∷◌}
use Rattle.program_rules.specs.Programs.{family}
use Rattle.program_rules.specs.Resolution.{resolve_method}
use Rattle.jvm_link.proofs.Naming.{absent_throws}
use Rattle.jvm_link.proofs.laws.methods_resolve.Goals as goal

pub returns : goal.returns
unfolding family resolve_method
returns c = λ p q w f fs r go. absent_throws q _ (f ∷ fs) (is_present (outline_of (p (class_behind r.class)))) (resolve_method r (family p (class_behind r.class))) _
