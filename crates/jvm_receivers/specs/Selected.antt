-- What a search for a method has answered.
use Rattle.std.specs.Prelude.{Bool, ◌||◌, if◌then◌else◌, List, Result}
use Rattle.program_rules.specs.declared.fault.Fault.{Fault}
use Rattle.program_rules.specs.declared.fault.Fault.TheVariants.{AbstractMethodError}
use Rattle.program_rules.specs.Faults.{Answer, Found, Fails}
use Rattle.program_rules.specs.Linked.{is_private}
use Rattle.program_rules.specs.Resolution.{MethodAt}
use Rattle.program_rules.specs.Selection.{is_own}
use Rattle.class_link.specs.Info.{Info}
use Rattle.jvm_link.specs.declared.site.Callee.{Callee}
use Rattle.jvm_link.specs.Answers.{AnswersCall}

-- Some search answers this.
pub record IsAnswer (p : List Info) (answer : Result Callee Fault) : Type 0 where
  pub found : Answer MethodAt
  pub answers : AnswersCall p found answer

-- Whether a method is what each object selects of it: a private one, and an array's `clone`.
abbrev pub is_fixed : MethodAt → Bool
is_fixed m = is_private m.flags || is_own m.callable

-- What an object selects of a method where the program hasn't its class.
abbrev pub own_or_none : MethodAt → Answer MethodAt
own_or_none m = if is_fixed m then Found m else Fails AbstractMethodError
