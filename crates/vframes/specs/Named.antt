-- What is known of the names that a class mentions (this project's own).
use Rattle.std.specs.Prelude.{◌≡◌, ◌<◌, ℕ, Bool, true, false, List, All, length, [], Option, Some, None, IfSome, slice_get}
use Rattle.std.specs.Option.{option_map}
use Rattle.program_rules.specs.Names.{Name}
use Rattle.type_rules.specs.References as rules
use Rattle.type_rules.specs.References.{ClassBase, LetterBase, dimensions, base_of, component_of, is_subtype}
use Rattle.type_rules.specs.Rows.{is_of_references}
use Rattle.type_rules.specs.Assignability.{takes_arrays}
use Rattle.class_model.specs.declared.class.ClassId.{ClassId}
use Rattle.class_link.specs.Info.{Info}
use Rattle.class_table.specs.Table.{number_of, name_or_none, look}
use Rattle.vframes.specs.declared.base.Base.{Base}
use Rattle.vframes.specs.declared.base.Base.TheVariants as code
use Rattle.vframes.specs.declared.named.Named.{Named}

-- A base as the rules have it.
abbrev pub base : Base → rules.Base
base (code.Class n) = ClassBase n
base (code.Letter u) = LetterBase u

-- The number of the class of a base, if it is one that is there.
abbrev pub class_number : List Info → rules.Base → Option ℕ
class_number p (ClassBase n) = number_of p n
class_number p (LetterBase u) = None

-- There is a class of this number, if there is a number.
abbrev pub IsWithin : List Info → Option ClassId → Type 0
IsWithin p id = IfSome id (λ i. i.0 < length p)

-- Each class above one that is there is there.
abbrev pub IsClosed : List Info → Type 0
IsClosed p =
    (m n : Name) (i : ℕ) → number_of p m ≡ Some i → number_of p n ≡ None
    → is_subtype (look p) m n ≡ false

-- A name is taken apart as it has to be.
pub record IsShaped (x : Named) : Type 0 where
  pub dimensions : x.dimensions ≡ dimensions x.name
  pub base : base x.base ≡ base_of x.name

-- What is kept of a name is right, but for its component.
pub record IsNamed (p : List Info) (x : Named) : Type 0 where
  pub shape : IsShaped x
  pub class : option_map (λ id. id.0) x.class ≡ class_number p (base_of x.name)
  pub within : IsWithin p x.class

-- The name of a number; the empty one, where there are not so many.
abbrev pub name_at : List Named → ℕ → Name
name_at ns i = name_or_none (option_map (λ x. x.name) (slice_get ns i))

-- The component's number is right.
abbrev pub HasComponent : List Named → Named → Type 0
HasComponent ns x =
    is_of_references (dimensions x.name) (base_of x.name) ≡ true
    → name_at ns x.component ≡ component_of x.name

-- There is a first name, which is empty.
pub record HasFirst (ns : List Named) : Type 0 where
  pub some : 0 < length ns
  pub empty : name_at ns 0 ≡ []

-- All that is kept of these names is right.
pub record AreNamed (p : List Info) (ns : List Named) : Type 0 where
  pub closed : IsClosed p
  pub first : HasFirst ns
  pub each : All (IsNamed p) ns

-- Equal names have equal numbers.
abbrev pub AreDistinct : List Named → Type 0
AreDistinct ns =
    (i j : ℕ) → i < length ns → j < length ns → name_at ns i ≡ name_at ns j → i ≡ j

-- The numbers of all components are right.
abbrev pub HaveComponents : List Named → Type 0
HaveComponents ns = All (HasComponent ns) ns

-- The class of a name has this number; it has none, where it isn't there.
abbrev pub IsNumberOf : List Info → Option ClassId → Name → Type 0
IsNumberOf p id n = option_map (λ i. i.0) id ≡ number_of p n

-- Whether a base is a class that is absent, and whether each array is assignable to it.
abbrev pub is_absent_base : rules.Classes → rules.Base → Bool
is_absent_base p (ClassBase n) = p.absent n
is_absent_base p (LetterBase u) = false

abbrev pub is_array_base : rules.Base → Bool
is_array_base (ClassBase n) = takes_arrays n
is_array_base (LetterBase u) = false
