-- What an object selects of a resolved method.
use Rattle.std.proofs.Common.{◌≡◌, ap, Bool, true, false, List, Ok, Err}
use Rattle.std.specs.Prelude.{if◌then◌else◌}
use Rattle.program_rules.specs.declared.fault.Fault.TheVariants.{AbstractMethodError}
use Rattle.program_rules.specs.Faults.{Answer, Found, Fails}
use Rattle.program_rules.specs.Resolution.{MethodAt}
use Rattle.class_link.specs.Info.{Info}
use Rattle.jvm_link.specs.Answers.{AnswersCall, IsCallee}
use Rattle.jvm_link.specs.declared.site.Callee.{Callee}
use Rattle.jvm_receivers.specs.Selected.{is_fixed, own_or_none}

abbrev own_by : MethodAt → Bool → Answer MethodAt
own_by m b = if b then Found m else Fails AbstractMethodError

pub fixed_found : (p : List Info) (m : MethodAt) (c : Callee) → IsCallee p m c → is_fixed m ≡ true → AnswersCall p (own_or_none m) (Ok c)
fixed_found p m c is e = record { method = m; found = ap (own_by m) e; callee = is }

pub other_fails : (p : List Info) (m : MethodAt) → is_fixed m ≡ false → AnswersCall p (own_or_none m) (Err AbstractMethodError)
other_fails p m e = ap (own_by m) e
