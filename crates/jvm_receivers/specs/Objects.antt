-- What objects are of, and what they select, by number.
use Rattle.std.specs.Prelude.{◌≡◌, ◌<◌, ℕ, Bool, if◌then◌else◌, List, length, Option, None, Some, Result, codes}
use Rattle.program_rules.specs.Faults.{Answer, Fails}
use Rattle.program_rules.specs.declared.fault.Fault.{Fault}
use Rattle.program_rules.specs.declared.fault.Fault.TheVariants.{IncompatibleClassChangeError}
use Rattle.program_rules.specs.Instructions.{MethodRef}
use Rattle.program_rules.specs.Names.{Name}
use Rattle.program_rules.specs.Objects.{Object, ObjectKind, class_of_object, object_at}
use Rattle.program_rules.specs.Programs.{Family, family, as_array_if}
use Rattle.program_rules.specs.Resolution.{MethodAt}
use Rattle.program_rules.specs.Selection.{select_named}
use Rattle.machine_rules.specs.State as def
use Rattle.machine_rules.specs.Lookups.{Known, is_array, known_of}
use Rattle.class_model.specs.declared.class.ClassId.{ClassId}
use Rattle.class_link.specs.Info.{Info}
use Rattle.class_table.specs.Table.{look, name_at}
use Rattle.jvm_link.specs.declared.site.Callee.{Callee}
use Rattle.jvm_link.specs.Answers.{AnswersCall}
use Rattle.jvm_link.specs.References.{IsTableOf}
use Rattle.jvm_link.specs.declared.rows.Receiver.{Receiver}
use Rattle.jvm_type_rows.specs.Instances.{is_kind_within}
use Rattle.jvm_world.specs.declared.world.World.{World}
use Rattle.jvm_world.specs.View.{Means}
use Rattle.jvm_receivers.specs.declared.lookups.Lookups.{Lookups}
use Rattle.jvm_receivers.specs.Owned.{AreOwned}

-- ---- classes by their names

-- The class of a name is this one of the program.
pub record IsClassOf (p : List Info) (n : Name) (id : ClassId) : Type 0 where
  pub within : id.0 < length p
  pub named : name_at p id.0 ≡ n

-- What the class of a name is, if there is one.
abbrev pub FindsClass : List Info → Name → Option ClassId → Type 0
FindsClass p n None = look p n ≡ None
FindsClass p n (Some id) = IsClassOf p n id

-- The class of texts.
abbrev pub text_name : Name
text_name = codes "java/lang/String"

-- ---- what objects are of

-- The class of an object, or of an array's elements, is this one of the program.
pub record IsReceiver (p : List Info) (k : ObjectKind) (to : Receiver) : Type 0 where
  pub class : IsClassOf p (class_of_object k) to.class
  pub array : is_array k ≡ to.array

-- What an object is of, if its class is one of the program.
abbrev pub FindsReceiver : List Info → ObjectKind → Option Receiver → Type 0
FindsReceiver p k None = look p (class_of_object k) ≡ None
FindsReceiver p k (Some to) = IsReceiver p k to

-- The same by a name, and whether it is of arrays.
pub record IsPlace (p : List Info) (n : Name) (array : Bool) (to : Receiver) : Type 0 where
  pub class : IsClassOf p n to.class
  pub agrees : array ≡ to.array

abbrev pub FindsPlace : List Info → Name → Bool → Option Receiver → Type 0
FindsPlace p n array None = look p n ≡ None
FindsPlace p n array (Some to) = IsPlace p n array to

-- The family in which the methods of such an object are searched.
abbrev pub methods_in : List Info → ObjectKind → Family
methods_in p k = as_array_if (is_array k) (family (look p) (class_of_object k))

-- ---- what objects select

-- The object of a number is there, in each world that is meant, and a search answers this for it.
pub record IsSelected
    (p : List Info) (w : World) (x : ℕ) (search : Known → Answer MethodAt)
    (answer : Result Callee Fault) : Type 0 where
  pub object : Object
  pub there : (v : def.World) → Means p w v → object_at v.heap x ≡ Some object
  pub answers : AnswersCall p (search (known_of (look p) object)) answer

-- The object of a number selects this; none where there is no such object.
abbrev pub SelectsFor :
    List Info → World → ℕ → (Known → Answer MethodAt) → Option (Result Callee Fault) → Type 0
SelectsFor p w x search None = (v : def.World) → Means p w v → object_at v.heap x ≡ None
SelectsFor p w x search (Some answer) = IsSelected p w x search answer

-- What an object of a kind selects by name and descriptor, if it is of the interface.
abbrev pub interface_in : List Info → MethodRef → ObjectKind → Answer MethodAt
interface_in p r k =
    if is_kind_within p k r.class then select_named r (methods_in p k)
    else Fails IncompatibleClassChangeError

-- ---- what is kept

-- What is kept of a program's resolutions and selections, and of what references name, is right.
pub record AreLookups (p : List Info) (l : Lookups) : Type 0 where
  pub references : IsTableOf p l.references
  pub selections : IsTableOf p l.selections
  pub own : AreOwned p l.own
  pub text : FindsClass p text_name l.text
