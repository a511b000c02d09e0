-- What references to fields and methods resolve to, by number, and what is right to keep of it.
use Rattle.std.specs.Prelude.{◌≡◌, ◌<◌, ℕ, List, Option, Some, Result, Ok, Err, length, slice_get}
use Rattle.program_rules.specs.Names.{Name, class_behind}
use Rattle.program_rules.specs.declared.fault.Fault.{Fault}
use Rattle.program_rules.specs.Faults.{Found, Fails}
use Rattle.program_rules.specs.Linked.{LinkedField}
use Rattle.program_rules.specs.Outlines.{fields_in}
use Rattle.program_rules.specs.Programs.{Rising, nodes}
use Rattle.program_rules.specs.Resolution.{field_at}
use Rattle.class_model.specs.declared.class.ClassId.{ClassId}
use Rattle.class_link.specs.declared.linked.Entry.{Entry}
use Rattle.class_link.specs.declared.linked.Entry.TheVariants as entry
use Rattle.class_link.specs.declared.linked.FieldRef.{FieldRef}
use Rattle.class_link.specs.declared.linked.MethodRef.{MethodRef}
use Rattle.class_link.specs.View.{field_ref_of, method_ref_of}
use Rattle.class_link.specs.Info.{Info}
use Rattle.class_table.specs.Table.{look, entries_at}
use Rattle.jvm_link.specs.declared.site.Site.{Site}
use Rattle.jvm_link.specs.declared.site.Callee.{Callee}
use Rattle.jvm_link.specs.Sites.{outline_at, node_at}
use Rattle.jvm_link.specs.Answers.{AnswersCall}
use Rattle.jvm_link.specs.Named.{IsClassNamed, field_named, method_named}
use Rattle.jvm_link.specs.declared.rows.Receiver.{Receiver}
use Rattle.jvm_link.specs.declared.rows.Kept.{Kept}
use Rattle.jvm_link.specs.declared.rows.Kept.TheVariants as kept
use Rattle.jvm_link.specs.Holding.{held}
use Rattle.jvm_link.specs.Selecting.{SelectsVirtual, SelectsByName}

-- A reference to a field resolves to the field of this class at this place.
pub record IsFieldNamed (p : List Info) (r : FieldRef) (s : Site) : Type 0 where
  pub within : s.class.0 < length p
  pub field : LinkedField
  pub there : slice_get (fields_in (outline_at p s.class.0)) s.place ≡ Some field
  pub found :
      field_named (look p) (field_ref_of r)
      ≡ Found (field_at (nodes Rising (look p) (class_behind r.class)) (node_at p s.class.0)
      (s.place, field))

-- What a reference to a field resolves to (JVMS 5.4.3.2).
abbrev pub ResolvesFieldRef : List Info → FieldRef → Result Site Fault → Type 0
ResolvesFieldRef p r (Ok s) = IsFieldNamed p r s
ResolvesFieldRef p r (Err fault) = field_named (look p) (field_ref_of r) ≡ Fails fault

-- What a reference to a method resolves to (JVMS 5.4.3.3, 5.4.3.4).
abbrev pub ResolvesMethodRef : List Info → MethodRef → Result Callee Fault → Type 0
ResolvesMethodRef p r = AnswersCall p (method_named (look p) (method_ref_of r))

-- ---- what is kept

-- An index of a class's constant pool means this.
abbrev pub IsEntry : List Info → ℕ → ℕ → Entry → Type 0
IsEntry p class index e = slice_get (entries_at p class) index ≡ Some e

-- A reference to a field names this class, and resolves to this.
pub record IsFieldOf (p : List Info) (id : ClassId) (answer : Result Site Fault) (r : FieldRef)
    : Type 0 where
  pub named : IsClassNamed p r.class id
  pub resolved : ResolvesFieldRef p r answer

-- So does a reference to a method.
pub record IsMethodOf
    (p : List Info) (id : ClassId) (answer : Result Callee Fault) (r : MethodRef) : Type 0 where
  pub named : IsClassNamed p r.class id
  pub resolved : ResolvesMethodRef p r answer

-- What is kept for an index is what the definitions give, whichever kind of reference it is, and
-- whatever is selected there.
abbrev pub IsRight : List Info → ℕ → ℕ → Kept → Type 0
IsRight p class index (kept.Class id) =
    (n : Name) → IsEntry p class index (entry.Class n) → IsClassNamed p n id
IsRight p class index (kept.Field id answer) =
    (r : FieldRef) → IsEntry p class index (entry.Field r) → IsFieldOf p id answer r
IsRight p class index (kept.Method id answer) =
    (r : MethodRef) → IsEntry p class index (entry.Method r) → IsMethodOf p id answer r
IsRight p class index (kept.Virtual to answer) =
    (r : MethodRef) → IsEntry p class index (entry.Method r) → SelectsVirtual p r to answer
IsRight p class index (kept.Named to answer) =
    (r : MethodRef) → IsEntry p class index (entry.Method r) → SelectsByName p r to answer

-- All that is kept is right.
abbrev pub IsTableOf : List Info → List (List (Option Kept)) → Type 0
IsTableOf p rows =
    (class index : ℕ) (k : Kept) → held class index rows ≡ Some k → IsRight p class index k

-- ---- what a table tells of what it keeps

-- The class that is kept for an index is the one that its name stands for.
pub record KeepsClass
    (rows : List (List (Option Kept))) (class index : ℕ) (id : ClassId) : Type 0 where
  pub named :
      (p : List Info) (n : Name) → IsTableOf p rows → IsEntry p class index (entry.Class n) →
      IsClassNamed p n id

-- The field that is kept, with the class that is named, is what the reference resolves to.
pub record KeepsField
    (rows : List (List (Option Kept))) (class index : ℕ) (id : ClassId)
    (answer : Result Site Fault) : Type 0 where
  pub named :
      (p : List Info) (r : FieldRef) → IsTableOf p rows → IsEntry p class index (entry.Field r) →
      IsClassNamed p r.class id
  pub resolved :
      (p : List Info) (r : FieldRef) → IsTableOf p rows → IsEntry p class index (entry.Field r) →
      ResolvesFieldRef p r answer

-- So is the method.
pub record KeepsMethod
    (rows : List (List (Option Kept))) (class index : ℕ) (id : ClassId)
    (answer : Result Callee Fault) : Type 0 where
  pub named :
      (p : List Info) (r : MethodRef) → IsTableOf p rows →
      IsEntry p class index (entry.Method r) → IsClassNamed p r.class id
  pub resolved :
      (p : List Info) (r : MethodRef) → IsTableOf p rows →
      IsEntry p class index (entry.Method r) → ResolvesMethodRef p r answer

-- The class that is kept for an index is the one that the reference to a method names.
pub record KeepsMethodClass
    (rows : List (List (Option Kept))) (class index : ℕ) (id : ClassId) : Type 0 where
  pub named :
      (p : List Info) (r : MethodRef) → IsTableOf p rows →
      IsEntry p class index (entry.Method r) → IsClassNamed p r.class id

-- What is kept for such an object is what it selects of the resolved method.
pub record KeepsVirtual
    (rows : List (List (Option Kept))) (class index : ℕ) (to : Receiver)
    (answer : Result Callee Fault) : Type 0 where
  pub selects :
      (p : List Info) (r : MethodRef) → IsTableOf p rows →
      IsEntry p class index (entry.Method r) → SelectsVirtual p r to answer

-- It is what it selects by name and descriptor.
pub record KeepsNamed
    (rows : List (List (Option Kept))) (class index : ℕ) (to : Receiver)
    (answer : Result Callee Fault) : Type 0 where
  pub selects :
      (p : List Info) (r : MethodRef) → IsTableOf p rows →
      IsEntry p class index (entry.Method r) → SelectsByName p r to answer
