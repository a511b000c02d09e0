-- What slots mean as locals and as the words of an operand stack (JVMS 2.6.1, 2.6.2).
use Rattle.std.specs.Prelude.{◌≡◌, ℕ, ◌≤◌, Bool, true, false, ◌&&◌, List, [], ◌∷◌, map, reverse, take, length, Option, Some, None}
use Rattle.program_rules.specs.declared.value.Value.{Value}
use Rattle.program_rules.specs.declared.value.Value.TheVariants as value
use Rattle.program_rules.specs.Kinds.{height_of}
use Rattle.jvm_state.specs.declared.slot.Slot.{Slot}
use Rattle.jvm_state.specs.declared.slot.Slot.TheVariants as slot

-- What a slot holds as a local.
abbrev pub local_in : Slot → Option Value
local_in slot.Unset = None
local_in (slot.Int z) = Some (value.Int z)
local_in (slot.Long z) = Some (value.Long z)
local_in (slot.Ref x) = Some (value.Ref x)
local_in slot.Null = Some value.Null

-- Locals by their slots.
abbrev pub locals_in : List Slot → List (Option Value)
locals_in slots = map local_in slots

-- The values of these words of a stack, the top first. A long takes two words, and the upper one is
-- unset. Words that are no such pair end the stack: no row makes them.
abbrev pub values_in : List Slot → List Value
values_in [] = []
values_in (slot.Int z ∷ words) = value.Int z ∷ values_in words
values_in (slot.Ref x ∷ words) = value.Ref x ∷ values_in words
values_in (slot.Null ∷ words) = value.Null ∷ values_in words
values_in (slot.Unset ∷ slot.Long z ∷ words) = value.Long z ∷ values_in words
values_in words = []

-- The lowest words of an operand stack, so many, the top first.
abbrev pub words_in : List Slot → ℕ → List Slot
words_in operands sp = reverse (take sp operands)

-- The stack of so many words, the top first.
abbrev pub stack_in : List Slot → ℕ → List Value
stack_in operands sp = values_in (words_in operands sp)

-- So many words are there, and each is of a value: none is half of one.
abbrev pub IsStack : List Slot → ℕ → Type 0
IsStack operands sp = (sp ≤ length operands) × (height_of (stack_in operands sp) ≡ sp)

-- Whether a word is a value by itself.
abbrev pub is_word : Slot → Bool
is_word slot.Unset = false
is_word (slot.Int z) = true
is_word (slot.Long z) = false
is_word (slot.Ref x) = true
is_word slot.Null = true

-- The value of a word that is one.
abbrev pub value_in : Slot → Value
value_in slot.Unset = value.Null
value_in (slot.Int z) = value.Int z
value_in (slot.Long z) = value.Long z
value_in (slot.Ref x) = value.Ref x
value_in slot.Null = value.Null

-- Whether two words are a long, or two values.
abbrev pub is_pair : Slot → Slot → Bool
is_pair (slot.Long z) slot.Unset = true
is_pair lower upper = is_word lower && is_word upper

-- The values of two such words, the top first.
abbrev pub pair_in : Slot → Slot → List Value
pair_in (slot.Long z) slot.Unset = value.Long z ∷ []
pair_in lower upper = value_in upper ∷ value_in lower ∷ []
