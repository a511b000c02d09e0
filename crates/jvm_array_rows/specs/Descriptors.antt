-- Descriptors of arrays (JVMS 4.3.2).
use Rattle.std.specs.Prelude.{◌≡◌, ℕ, nat_eq, ◌||◌, Bool, true}
use Rattle.program_rules.specs.Names.{Name, is_array_name, class_behind}

-- Whether a unit is the letter of a primitive kind, but a float.
abbrev pub is_letter : ℕ → Bool
is_letter c =
    nat_eq c 90 || (nat_eq c 66 || (nat_eq c 67 || (nat_eq c 83 || (nat_eq c 73 || nat_eq c 74))))

-- A class is the one behind an array's name, if it is one.
abbrev pub IsBehind : Name → Name → Type 0
IsBehind class name = is_array_name name ≡ true → class ≡ class_behind name
