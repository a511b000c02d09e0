-- The classes of which native methods make objects, by number.
use Rattle.std.specs.Prelude.{◌≡◌, ℕ, nat_eq, Bool, true, false, List}
use Rattle.program_rules.specs.declared.making.Making.{Making}
use Rattle.program_rules.specs.declared.making.Making.TheVariants as making
use Rattle.program_rules.specs.Names.{Name, same}
use Rattle.program_rules.specs.Deeds.{making_name}
use Rattle.library_rules.specs.Arguments.{is_made_of}
use Rattle.jvm_values.specs.declared.object.Object.{Object}
use Rattle.lib_core.specs.declared.known.Known.{Known}
use Rattle.lib_core.specs.View.{name_at, object_of}

abbrev pub known_id : Known → Making → ℕ
known_id k making.Text = k.text.0
known_id k making.List = k.list.0
known_id k making.Set = k.set.0
known_id k making.Iterator = k.iterator.0
known_id k making.Optional = k.optional.0
known_id k making.Integer = k.integer.0
known_id k making.Long = k.long.0
known_id k making.Short = k.short.0
known_id k making.Byte = k.byte.0
known_id k making.Character = k.character.0
known_id k making.Boolean = k.boolean.0

-- Whether it is the class of texts.
abbrev pub is_text_class : Making → Bool
is_text_class making.Text = true
is_text_class making.List = false
is_text_class making.Set = false
is_text_class making.Iterator = false
is_text_class making.Optional = false
is_text_class making.Integer = false
is_text_class making.Long = false
is_text_class making.Short = false
is_text_class making.Byte = false
is_text_class making.Character = false
is_text_class making.Boolean = false

-- Among classes of these names, the known numbers are those of the classes of which native methods
-- make objects, and no other class has such a name.
pub record IsKnown (ns : List Name) (k : Known) : Type 0 where
  pub named : (m : Making) → name_at ns (known_id k m) ≡ making_name m
  pub alone : (m : Making) (id : ℕ) →
      same (name_at ns id) (making_name m) ≡ nat_eq id (known_id k m)

-- This says whether an object is of the very class.
abbrev pub TellsMade : Known → Making → Object → Bool → Type 0
TellsMade k m o b = (ns : List Name) → IsKnown ns k → is_made_of m (object_of ns o) ≡ b
