-- Fields of objects, kept by the number of a class and an index of its constant pool.
use Rattle.std.specs.Prelude.{◌≡◌, ℕ, false, List, Option, Some}
use Rattle.class_link.specs.declared.linked.Entry.TheVariants as entry
use Rattle.class_link.specs.declared.linked.FieldRef.{FieldRef}
use Rattle.class_link.specs.Info.{Info}
use Rattle.jvm_link.specs.Named.{IsClassNamed}
use Rattle.jvm_link.specs.Holding.{held}
use Rattle.jvm_link.specs.References.{IsEntry, IsFieldNamed}
use Rattle.jvm_members.specs.declared.sites.ObjectField.{ObjectField}
use Rattle.jvm_members.specs.Sites.{ServesFor, TellsStatic}

-- A reference resolves to this field, which isn't static.
pub record IsObjectField (p : List Info) (r : FieldRef) (x : ObjectField) : Type 0 where
  pub named : IsClassNamed p r.class x.named
  pub found : IsFieldNamed p r x.site
  pub object : TellsStatic p x.site false
  pub serves : ServesFor p r x.slot

-- A reference stands at this index, and resolves to it.
pub record IsKnown (p : List Info) (class index : ℕ) (x : ObjectField) : Type 0 where
  pub reference : FieldRef
  pub stands : IsEntry p class index (entry.Field reference)
  pub field : IsObjectField p reference x

-- All that is held is right.
abbrev pub AreSlots : List Info → List (List (Option ObjectField)) → Type 0
AreSlots p rows =
    (class index : ℕ) (x : ObjectField) → held class index rows ≡ Some x → IsKnown p class index x
