-- What objects select of the methods that references resolve to.
use Rattle.std.specs.Prelude.{◌≡◌, ◌&&◌, nat_eq, Bool, List, Result}
use Rattle.program_rules.specs.declared.fault.Fault.{Fault}
use Rattle.program_rules.specs.Faults.{Found}
use Rattle.program_rules.specs.Resolution.{MethodAt, same_bool}
use Rattle.program_rules.specs.Selection.{select_virtual}
use Rattle.class_link.specs.declared.linked.MethodRef.{MethodRef}
use Rattle.class_link.specs.View.{method_ref_of}
use Rattle.class_link.specs.Info.{Info}
use Rattle.class_table.specs.Table.{look}
use Rattle.jvm_link.specs.declared.site.Callee.{Callee}
use Rattle.jvm_link.specs.Candidates.{family_at}
use Rattle.jvm_link.specs.Answers.{AnswersCall, SelectsNamed}
use Rattle.jvm_link.specs.Named.{method_named}
use Rattle.jvm_link.specs.declared.rows.Receiver.{Receiver}

-- Whether two objects are of one class, or arrays of it.
abbrev pub same_receiver : Receiver → Receiver → Bool
same_receiver a b = nat_eq a.class.0 b.class.0 && same_bool a.array b.array

-- An object of this class selects this of the method that the reference resolves to (JVMS 5.4.6).
pub record SelectsVirtual
    (p : List Info) (r : MethodRef) (to : Receiver) (answer : Result Callee Fault) : Type 0 where
  pub selects :
      (m : MethodAt) → method_named (look p) (method_ref_of r) ≡ Found m →
      AnswersCall p (select_virtual (method_ref_of r) m (family_at p to.class.0 to.array)) answer

-- It selects this by name and descriptor.
abbrev pub SelectsByName : List Info → MethodRef → Receiver → Result Callee Fault → Type 0
SelectsByName p r to = SelectsNamed p to.class.0 to.array (method_ref_of r)
