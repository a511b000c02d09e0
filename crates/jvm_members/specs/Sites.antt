-- Fields that references name, by number.
use Rattle.std.specs.Prelude.{◌≡◌, ◌⊎◌, ◌≤◌, ◌^◌, ℕ, Bool, List, Some, slice_get}
use Rattle.program_rules.specs.Faults.{Found}
use Rattle.program_rules.specs.Linked.{LinkedField}
use Rattle.program_rules.specs.Outlines.{fields_in, is_static_field}
use Rattle.program_rules.specs.Resolution.{FieldAt, slot_of}
use Rattle.class_link.specs.declared.linked.FieldRef.{FieldRef}
use Rattle.class_link.specs.View.{field_ref_of}
use Rattle.class_link.specs.Info.{Info}
use Rattle.class_table.specs.Table.{look, name_at}
use Rattle.class_family.specs.Families.{node_of, rising_at}
use Rattle.jvm_link.specs.declared.site.Site.{Site}
use Rattle.jvm_link.specs.Named.{field_named}
use Rattle.jvm_link.specs.Sites.{outline_at}

-- A class declares a field at a place.
abbrev pub Declares : List Info → Site → LinkedField → Type 0
Declares p s f = slice_get (fields_in (outline_at p s.class.0)) s.place ≡ Some f

-- What is told of whether the field at a place is static.
abbrev pub TellsStatic : List Info → Site → Bool → Type 0
TellsStatic p s b =
    (f : LinkedField) → Declares p s f → b ≡ is_static_field (outline_at p s.class.0) f

-- A field of the definitions has the kind of the one that a class declares at a place.
abbrev pub HasKindAt : List Info → Site → FieldAt → Type 0
HasKindAt p s x = (f : LinkedField) → Declares p s f → x.kind ≡ f.kind

-- A field of the definitions is the one that a class of the program declares at a place.
pub record IsFieldAt (p : List Info) (s : Site) (x : FieldAt) : Type 0 where
  pub class : x.class ≡ name_at p s.class.0
  pub place : x.place ≡ s.place
  pub field : LinkedField
  pub there : Declares p s field
  pub static : x.static ≡ is_static_field (outline_at p s.class.0) field
  pub kind : x.kind ≡ field.kind

-- A reference resolves to this field.
abbrev pub ResolvesTo : List Info → FieldRef → FieldAt → Type 0
ResolvesTo p r x = field_named (look p) (field_ref_of r) ≡ Found x

-- A number that serves for a slot. No object has a slot 2^31, and so each number from there on
-- serves for each slot from there on.
abbrev pub Serves : ℕ → ℕ → Type 0
Serves number slot = (slot ≡ number) ⊎ ((2 ^ 31 ≤ number) × (2 ^ 31 ≤ slot))

-- It serves for the slot of a field in an object of a class.
abbrev pub ServesIn : List Info → ℕ → Site → ℕ → Type 0
ServesIn p root s number =
    Serves number (slot_of (rising_at p root) (node_of (look p) (name_at p s.class.0)) s.place)

-- It serves for the slot of what a reference resolves to.
abbrev pub ServesFor : List Info → FieldRef → ℕ → Type 0
ServesFor p r number = (x : FieldAt) → ResolvesTo p r x → Serves number x.slot
