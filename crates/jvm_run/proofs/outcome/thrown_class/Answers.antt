use Rattle.std.proofs.Common.{◌∙◌, sym, ap}
use Rattle.machine_rules.specs.Outcomes.{thrown_class}
use Rattle.jvm_run.proofs.outcome.thrown_class.Goals as goal

pub returns-in_ok-class-in-Some : goal.returns-in_ok-class-in-Some
returns-in_ok-class-in-Some c = λ v m. c.in_ok-class-in-Some.ensures ∙ sym (ap thrown_class (c.in-Some.ensures v m))

pub returns-in-None : goal.returns-in-None
returns-in-None c = λ v m. c.new.ensures ∙ sym (ap thrown_class (c.in-None.ensures v m))
