-- What searches for fields and methods give, by number.
use Rattle.std.specs.Prelude.{◌≡◌, ◌<◌, ℕ, suc, Bool, false, ◌&&◌, if◌then◌else◌, List, [], ◌∷◌, map, take, Option, Some, None, slice_get, length}
use Rattle.program_rules.specs.Names.{Name, same, is_array_name}
use Rattle.program_rules.specs.Kinds.{Kind}
use Rattle.program_rules.specs.Instructions.{FieldRef}
use Rattle.program_rules.specs.Linked.{LinkedField}
use Rattle.program_rules.specs.declared.fault.Fault.TheVariants.{NoSuchFieldError}
use Rattle.program_rules.specs.Faults.{Answer, Found, Fails}
use Rattle.program_rules.specs.Outlines.{Outline, Head, head_of, is_abstractly, outline_of, fields_in, heads_in, field_in, head_in}
use Rattle.program_rules.specs.Programs.{Node, family}
use Rattle.program_rules.specs.Resolution.{FieldAt, MethodAt, field_at, search_field, first_declared, method_at, resolve_field}
use Rattle.class_model.specs.declared.class.ClassId.{ClassId}
use Rattle.class_link.specs.declared.linked.Entry.{Entry}
use Rattle.class_link.specs.declared.linked.LinkedClass.{LinkedClass}
use Rattle.class_link.specs.declared.linked.LinkedMethod.{LinkedMethod}
use Rattle.class_link.specs.View.{method_of}
use Rattle.class_link.specs.Info.{Info}
use Rattle.class_table.specs.Table.{look, name_at}
use Rattle.class_family.specs.Families.{node_of, rising_at}
use Rattle.jvm_link.specs.declared.site.Site.{Site}

-- The class of a number, without its code.
abbrev pub outline_at : List Info → ℕ → Option Outline
outline_at p a = outline_of (look p (name_at p a))

-- The class as searches see it.
abbrev pub node_at : List Info → ℕ → Node
node_at p a = node_of (look p) (name_at p a)

-- These classes as searches see them.
abbrev pub nodes_at : List Info → List ℕ → List Node
nodes_at p ids = map (node_at p) ids

-- The classes from this one upwards, if there is one.
abbrev pub rising_from : List Info → Option ClassId → List Node
rising_from p None = []
rising_from p (Some a) = rising_at p a.0

-- ---- fields

-- The place of the first field of this name and descriptor, counted from i.
abbrev pub field_place : Name → Name → ℕ → List LinkedField → Option ℕ
field_place name desc i [] = None
field_place name desc i (f ∷ fs) =
    if same f.name name && same f.desc desc then Some i else field_place name desc (suc i) fs

-- A class declares a field of this name and descriptor, and this is its place.
pub record DeclaresField (p : List Info) (a : ℕ) (name desc : Name) (place : ℕ) : Type 0 where
  pub field : LinkedField
  pub there : field_in name desc (outline_at p a) ≡ Some (place, field)

-- A search has found this field, whatever the classes are before whose fields it has its slot.
pub record IsField (p : List Info) (answer : List Node → Answer FieldAt) (s : Site) : Type 0 where
  pub within : s.class.0 < length p
  pub field : LinkedField
  pub there : slice_get (fields_in (outline_at p s.class.0)) s.place ≡ Some field
  pub found :
      (rising : List Node) →
      answer rising ≡ Found (field_at rising (node_at p s.class.0) (s.place, field))

-- What a search for a field gives.
abbrev pub AnswersField : List Info → (List Node → Answer FieldAt) → Option Site → Type 0
AnswersField p answer None = (rising : List Node) → answer rising ≡ Fails NoSuchFieldError
AnswersField p answer (Some s) = IsField p answer s

-- The first of these classes that declares a field gives it.
abbrev pub FindsField : List Info → Name → Name → List ℕ → Option Site → Type 0
FindsField p name desc ids =
    AnswersField p (λ rising. search_field rising name desc (nodes_at p ids))

-- A reference to a field.
abbrev pub field_ref : Name → Name → Name → Kind → FieldRef
field_ref class name desc kind =
    record { class = class; name = name; desc = desc; kind = kind }

-- The answer of the definitions to a reference that names this class.
abbrev pub IsResolvedField : List Info → ℕ → Name → Name → Answer FieldAt → Type 0
IsResolvedField p a name desc answer =
    (class : Name) (kind : Kind) → is_array_name class ≡ false →
    resolve_field (field_ref class name desc kind) (family (look p) (name_at p a)) ≡ answer

-- A reference is resolved to this field.
pub record ResolvesToField (p : List Info) (a : ℕ) (name desc : Name) (s : Site) : Type 0 where
  pub within : s.class.0 < length p
  pub field : LinkedField
  pub there : slice_get (fields_in (outline_at p s.class.0)) s.place ≡ Some field
  pub resolved :
      IsResolvedField p a name desc
      (Found (field_at (rising_at p a) (node_at p s.class.0) (s.place, field)))

-- What a reference to a field of a class is resolved to.
abbrev pub ResolvesField : List Info → ℕ → Name → Name → Option Site → Type 0
ResolvesField p a name desc None = IsResolvedField p a name desc (Fails NoSuchFieldError)
ResolvesField p a name desc (Some s) = ResolvesToField p a name desc s

-- ---- methods

-- A method of a class says this.
abbrev pub HasHead : List Info → ℕ → ℕ → Head → Type 0
HasHead p a place h = slice_get (heads_in (outline_at p a)) place ≡ Some h

-- A method stands at this place of a class.
abbrev pub StandsAt : LinkedClass → ℕ → LinkedMethod → Type 0
StandsAt c place m = slice_get c.methods place ≡ Some m

-- Whether a call of a method finds nothing to run, whatever its class has for entries.
abbrev pub IsEmpty : LinkedMethod → Bool → Type 0
IsEmpty m empty =
    (es : List Entry) → empty ≡ is_abstractly (head_of (method_of es m)).callable

-- A class declares a method of this name and descriptor, and this is its place.
pub record DeclaresMethod (p : List Info) (a : ℕ) (name desc : Name) (place : ℕ) : Type 0 where
  pub head : Head
  pub there : head_in name desc (outline_at p a) ≡ Some (place, head)
  pub within : slice_get (heads_in (outline_at p a)) place ≡ Some head

-- A search has found this method.
pub record IsMethod (p : List Info) (answer : Option MethodAt) (s : Site) : Type 0 where
  pub within : s.class.0 < length p
  pub head : Head
  pub there : slice_get (heads_in (outline_at p s.class.0)) s.place ≡ Some head
  pub found : answer ≡ Some (method_at (node_at p s.class.0) (s.place, head))

-- What a search for a method gives.
abbrev pub AnswersMethod : List Info → Option MethodAt → Option Site → Type 0
AnswersMethod p answer None = answer ≡ None
AnswersMethod p answer (Some s) = IsMethod p answer s

-- A class and its superclasses give this.
abbrev pub FirstDeclared : List Info → ℕ → Name → Name → Option Site → Type 0
FirstDeclared p a name desc = AnswersMethod p (first_declared name desc (rising_at p a))

-- The class alone does.
abbrev pub OwnDeclared : List Info → ℕ → Name → Name → Option Site → Type 0
OwnDeclared p a name desc = AnswersMethod p (first_declared name desc (take 1 (rising_at p a)))
