-- What the instances of a class hold at first, and the words that they take, by the class's number.
use Rattle.std.specs.Prelude.{◌≡◌, ℕ, ◌+◌, Bool, ◌||◌, if◌then◌else◌, List, [], ◌∷◌, ◌++◌, reverse, drop, take, Option, Some, None}
use Rattle.class_model.specs.declared.class.ClassId.{ClassId}
use Rattle.program_rules.specs.declared.value.Value.{Value}
use Rattle.program_rules.specs.Names.{Name}
use Rattle.program_rules.specs.Kinds.{default_of}
use Rattle.program_rules.specs.Layout.{values_of, extra_words, native_words}
use Rattle.program_rules.specs.Linked.{LinkedField, is_static, is_interface}
use Rattle.program_rules.specs.Outlines.{Outline}
use Rattle.program_rules.specs.Programs.{Node, family}
use Rattle.class_link.specs.Info.{Info}
use Rattle.class_table.specs.Table.{look, name_at}
use Rattle.class_family.specs.Families.{rising_at}
use Rattle.jvm_rows.specs.Making.{AreInstances}
use Rattle.jvm_layout.specs.declared.layout.Layout.{Layout}

-- The last rows of the table of words beside fields.
abbrev pub number_words : List (Name × ℕ)
number_words = drop 5 native_words

-- The defaults of the fields that aren't static, where all are of an interface or none is.
abbrev pub own_values : Bool → List LinkedField → List Value
own_values all [] = []
own_values all (f ∷ fs) =
    if all || is_static f.flags then own_values all fs else default_of f.kind ∷ own_values all fs

-- The same of a class, if there is one.
abbrev pub own_at : Option Outline → List Value
own_at None = []
own_at (Some c) = own_values (is_interface c.flags) c.fields

-- The same of those before a place.
abbrev pub own_before : ℕ → Option Outline → List Value
own_before place None = []
own_before place (Some c) = own_values (is_interface c.flags) (take place c.fields)

-- The walk upwards from a class, if there is one.
abbrev pub rising_from : List Info → Option ClassId → List Node
rising_from p None = []
rising_from p (Some a) = rising_at p a.0

-- The values and the words beside them of a class and all above it, of which those from another one
-- on are still to come. The values stand in the opposite order.
pub record Climbs
    (p : List Info) (from : ℕ) (next : Option ClassId) (done : List Value) (words : ℕ)
    : Type 0 where
  pub values : values_of (rising_at p from) ≡ values_of (rising_from p next) ++ reverse done
  pub extra : extra_words (rising_at p from) ≡ words + extra_words (rising_from p next)

-- The layout of a class's instances.
abbrev pub IsLayoutOf : List Info → ℕ → Layout → Type 0
IsLayoutOf p class l =
    AreInstances p class l.is_abstract l.values l.more (name_at p class)
    (family (look p) (name_at p class))
