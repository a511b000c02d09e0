-- Arrays of arrays in a heap (JVMS 6.5, `multianewarray`).
use Rattle.std.specs.Prelude.{◌≡◌, ℕ, zero, suc, ◌+◌, ◌*◌, ◌<◌, ◌≤◌, List, [], ◌∷◌, ◌++◌, Option, None, Some}
use Rattle.class_model.specs.declared.kind.Kind.{Kind}
use Rattle.class_model.specs.declared.kind.Kind.TheVariants as plain
use Rattle.program_rules.specs.Names.{Name, without_first}
use Rattle.program_rules.specs.Kinds.{component_kind}
use Rattle.program_rules.specs.Kinds as kinds
use Rattle.program_rules.specs.declared.value.Value.{Value}
use Rattle.program_rules.specs.declared.value.Value.TheVariants.{Ref}
use Rattle.jvm_values.specs.declared.object.Object.{Object}
use Rattle.jvm_values.specs.declared.object.ObjKind.TheVariants.{Array}
use Rattle.jvm_values.specs.Contents.{Contents, next_number, with_object, with_object_at}
use Rattle.jvm_values.specs.Words.{new_array, array_words}
use Rattle.machine_rules.specs.declared.machine.Limits.{Limits}
use Rattle.machine_rules.specs.State.{World}
use Rattle.machine_rules.specs.NewObjects.{new_arrays}

-- ---- counts, kinds

-- The words that they take together, by their counts, the outer one first.
abbrev pub words_for : List ℕ → ℕ
words_for [] = 0
words_for (n ∷ []) = 2 + n
words_for (n ∷ m ∷ ns) = (2 + n) + n * words_for (m ∷ ns)

-- So many words, where they are within a limit; none where they are past it.
abbrev pub WordsWithin : Option ℕ → ℕ → ℕ → Type 0
WordsWithin None words limit = limit < words
WordsWithin (Some w) words limit = (w ≡ words) × (w ≤ limit)

-- A kind as the heap has it.
abbrev pub plain_of : kinds.Kind → Kind
plain_of kinds.OfBoolean = plain.Boolean
plain_of kinds.OfByte = plain.Byte
plain_of kinds.OfChar = plain.Char
plain_of kinds.OfShort = plain.Short
plain_of kinds.OfInt = plain.Int
plain_of kinds.OfLong = plain.Long
plain_of (kinds.OfReference n) = plain.Ref n

-- The kind of the components of an array of this name.
abbrev pub component_of : Name → Kind
component_of name = plain_of (component_kind name)

-- What makes arrays of arrays, within these limits.
abbrev pub making : Name → List ℕ → Limits → World → Option (World × ℕ)
making name ns q w = new_arrays q name ns w

-- ---- in a heap

-- A heap with an array more.
abbrev pub with_array : Kind → ℕ → Contents → Contents
with_array k n h = with_object h (new_array k n) (array_words n)

abbrev pub next_part : Contents × List Value → Contents × ℕ → Contents × List Value
next_part a b = (b.0, a.1 ++ Ref b.1 ∷ [])

-- So many components, one after the other, each made whole.
abbrev pub parts : (Contents → Contents × ℕ) → ℕ → Contents → Contents × List Value
parts make zero h = (h, [])
parts make (suc n) h = next_part (parts make n h) (make (parts make n h).0)

abbrev pub array_with : Kind → List Value → Object
array_with k vs = record { kind = Array k; values = vs; text = []; items = [] }

-- The array of a number holds these.
abbrev pub filled : Kind → ℕ → Contents × List Value → Contents × ℕ
filled k x a = (with_object_at a.0 x (array_with k a.1), x)

-- The heap with an array of arrays of this name, by its counts, and its number: the outer one
-- first, then each component whole.
abbrev pub built : Name → List ℕ → Contents → Contents × ℕ
built name [] h = (h, 0)
built name (n ∷ []) h = (with_array (component_of name) n h, next_number h)
built name (n ∷ m ∷ ns) h =
    filled (component_of name) (next_number h)
    (parts (built (without_first name) (m ∷ ns)) n (with_array (component_of name) n h))
