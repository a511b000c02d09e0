-- The words that objects take of the heap, and what their slots hold at first (this project's own;
-- JVMS 2.3, 2.4).
use Rattle.std.specs.Prelude.{ℕ, ◌+◌, pos, List, [], length, map, replicate}
use Rattle.class_model.specs.declared.kind.Kind.{Kind}
use Rattle.class_model.specs.declared.kind.Kind.TheVariants.{Boolean, Byte, Char, Short, Int as OfInt, Long as OfLong, Ref as OfReference}
use Rattle.program_rules.specs.declared.value.Value.{Value}
use Rattle.program_rules.specs.declared.value.Value.TheVariants.{Int, Long, Null}
use Rattle.jvm_values.specs.declared.object.Object.{Object}
use Rattle.jvm_values.specs.declared.object.ObjKind.TheVariants.{Plain, Array, Text}
use Rattle.jvm_values.specs.Contents.{Contents, with_object}

-- What a field or an element of a kind holds at first.
abbrev pub default_of : Kind → Value
default_of OfLong = Long (pos 0)
default_of (OfReference name) = Null
default_of Boolean = Int (pos 0)
default_of Byte = Int (pos 0)
default_of Char = Int (pos 0)
default_of Short = Int (pos 0)
default_of OfInt = Int (pos 0)

-- A new object of a class with such fields: one word, and one for each field.
abbrev pub new_object : ℕ → List Kind → Object
new_object class fields = record { kind = Plain (record { 0 = class }); values = map default_of fields; text = []; items = [] }

abbrev pub object_words : List Kind → ℕ
object_words fields = 1 + length fields

-- A new array of so many such elements: two words, and one for each element.
abbrev pub new_array : Kind → ℕ → Object
new_array of len = record { kind = Array of; values = replicate len (default_of of); text = []; items = [] }

abbrev pub array_words : ℕ → ℕ
array_words len = 2 + len

-- A new text: two words, and one for each UTF-16 code unit.
abbrev pub new_text : List ℕ → Object
new_text units = record { kind = Text; values = []; text = units; items = [] }

abbrev pub text_words : List ℕ → ℕ
text_words units = 2 + length units

-- The heap with such a new object.
abbrev pub with_new_object : Contents → ℕ → List Kind → Contents
with_new_object heap class fields = with_object heap (new_object class fields) (object_words fields)

-- The heap with such a new array.
abbrev pub with_new_array : Contents → Kind → ℕ → Contents
with_new_array heap of len = with_object heap (new_array of len) (array_words len)

-- The heap with such a new text.
abbrev pub with_new_text : Contents → List ℕ → Contents
with_new_text heap units = with_object heap (new_text units) (text_words units)
