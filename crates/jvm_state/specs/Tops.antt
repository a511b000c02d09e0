-- What stands on the top of a stack, for all rows that take it off.
use Rattle.std.specs.Prelude.{◌≡◌, ℕ, ℤ, List, [], ◌∷◌, Option}
use Rattle.program_rules.specs.declared.value.Value.{Value}
use Rattle.machine_rules.specs.Effects.{Effect, NoRow, on_int, on_ints, on_long, on_longs, on_reference, on_word, on_two_words}
use Rattle.jvm_state.specs.declared.slot.Slot.{Slot}
use Rattle.jvm_state.specs.Slots.{value_in, pair_in}

-- An int, and the stack below it.
abbrev pub TakesInt : List Value → ℤ → List Value → Type 0
TakesInt stack z rest = (go : ℤ → List Value → Effect) → on_int stack go ≡ go z rest

-- Where no int stands on the top, no row that takes one applies.
abbrev pub NoInt : List Value → Type 0
NoInt stack = (go : ℤ → List Value → Effect) → on_int stack go ≡ NoRow

-- Two ints, the upper one last.
abbrev pub TakesInts : List Value → ℤ → ℤ → List Value → Type 0
TakesInts stack x y rest = (go : ℤ → ℤ → List Value → Effect) → on_ints stack go ≡ go x y rest

abbrev pub NoInts : List Value → Type 0
NoInts stack = (go : ℤ → ℤ → List Value → Effect) → on_ints stack go ≡ NoRow

-- A long.
abbrev pub TakesLong : List Value → ℤ → List Value → Type 0
TakesLong stack z rest = (go : ℤ → List Value → Effect) → on_long stack go ≡ go z rest

abbrev pub NoLong : List Value → Type 0
NoLong stack = (go : ℤ → List Value → Effect) → on_long stack go ≡ NoRow

-- Two longs, the upper one last.
abbrev pub TakesLongs : List Value → ℤ → ℤ → List Value → Type 0
TakesLongs stack x y rest = (go : ℤ → ℤ → List Value → Effect) → on_longs stack go ≡ go x y rest

abbrev pub NoLongs : List Value → Type 0
NoLongs stack = (go : ℤ → ℤ → List Value → Effect) → on_longs stack go ≡ NoRow

-- A reference, none for null.
abbrev pub TakesReference : List Value → Option ℕ → List Value → Type 0
TakesReference stack o rest =
    (go : Option ℕ → List Value → Effect) → on_reference stack go ≡ go o rest

abbrev pub NoReference : List Value → Type 0
NoReference stack = (go : Option ℕ → List Value → Effect) → on_reference stack go ≡ NoRow

-- A value of one word.
abbrev pub TakesWord : List Value → Slot → List Value → Type 0
TakesWord stack s rest =
    (go : List Value → List Value → Effect) → on_word stack go ≡ go (value_in s ∷ []) rest

abbrev pub NoWord : List Value → Type 0
NoWord stack = (go : List Value → List Value → Effect) → on_word stack go ≡ NoRow

-- Two words: a long, or two values of one word each.
abbrev pub TakesPair : List Value → Slot → Slot → List Value → Type 0
TakesPair stack lower upper rest =
    (go : List Value → List Value → Effect)
    → on_two_words stack go ≡ go (pair_in lower upper) rest

abbrev pub NoPair : List Value → Type 0
NoPair stack = (go : List Value → List Value → Effect) → on_two_words stack go ≡ NoRow
