-- What is taken off a stack by number, as the rows of the rules take it: a row goes on with what is
-- taken and what is left, or rule 7 refuses.
use Rattle.std.specs.Prelude.{◌≡◌, Bool, List}
use Rattle.program_rules.specs.Types.{VType}
use Rattle.type_rules.specs.Rows.{Checked, Fails, takes_int, takes_long, takes_such, takes_word, takes_two}
use Rattle.vframes.specs.declared.named.Named.{Named}
use Rattle.vframes.specs.declared.slot_type.SlotType.{SlotType}
use Rattle.vframes.specs.declared.stack.Two.{Two}
use Rattle.vframes.specs.View.{type_of, types_in, two_types}

-- An int.
abbrev pub TakesInt : List SlotType → List SlotType → Type 0
TakesInt old new =
    (ns : List Named) (go : List VType → Checked)
    → takes_int (types_in ns old) go ≡ go (types_in ns new)

abbrev pub TakesNoInt : List SlotType → Type 0
TakesNoInt old =
    (ns : List Named) (go : List VType → Checked) → takes_int (types_in ns old) go ≡ Fails 7

-- A long.
abbrev pub TakesLong : List SlotType → List SlotType → Type 0
TakesLong old new =
    (ns : List Named) (go : List VType → Checked)
    → takes_long (types_in ns old) go ≡ go (types_in ns new)

abbrev pub TakesNoLong : List SlotType → Type 0
TakesNoLong old =
    (ns : List Named) (go : List VType → Checked) → takes_long (types_in ns old) go ≡ Fails 7

-- A type of one word.
abbrev pub TakesWord : List SlotType → SlotType → List SlotType → Type 0
TakesWord old t new =
    (ns : List Named) (go : VType → List VType → Checked)
    → takes_word (types_in ns old) go ≡ go (type_of ns t) (types_in ns new)

abbrev pub TakesNoWord : List SlotType → Type 0
TakesNoWord old =
    (ns : List Named) (go : VType → List VType → Checked)
    → takes_word (types_in ns old) go ≡ Fails 7

-- Such a type.
abbrev pub TakesSuch : (VType → Bool) → List SlotType → SlotType → List SlotType → Type 0
TakesSuch test old t new =
    (ns : List Named) (go : VType → List VType → Checked)
    → takes_such test (types_in ns old) go ≡ go (type_of ns t) (types_in ns new)

abbrev pub TakesNoSuch : (VType → Bool) → List SlotType → Type 0
TakesNoSuch test old =
    (ns : List Named) (go : VType → List VType → Checked)
    → takes_such test (types_in ns old) go ≡ Fails 7

-- Two words.
abbrev pub TakesTwo : List SlotType → Two → List SlotType → Type 0
TakesTwo old ts new =
    (ns : List Named) (go : List VType → List VType → Checked)
    → takes_two (types_in ns old) go ≡ go (two_types ns ts) (types_in ns new)

abbrev pub TakesNoTwo : List SlotType → Type 0
TakesNoTwo old =
    (ns : List Named) (go : List VType → List VType → Checked)
    → takes_two (types_in ns old) go ≡ Fails 7
