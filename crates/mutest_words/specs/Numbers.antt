-- Numbers of options: decimal digits without a sign or a leading zero (this project's own).
use Rattle.std.specs.Prelude.{ℕ, ◌+◌, ◌-◌, ◌*◌, ◌==◌, ◌&&◌, ◌||◌, nat_lt, nat_le, Bool, List, [], ◌∷◌}
use Rattle.std.specs.Prelude.{Option, Some, None, option_and_then, if◌then◌else◌}

abbrev pub is_digit : ℕ → Bool
is_digit byte = nat_le 48 byte && nat_le byte 57

-- The number that digits continue. One of more than ten digits is past every range.
abbrev pub decimal_from : ℕ → List ℕ → Option ℕ
decimal_from value [] = Some value
decimal_from value (byte ∷ bytes) =
    if is_digit byte && nat_lt value 1_000_000_000
    then decimal_from (value * 10 + (byte - 48)) bytes
    else None

abbrev pub number_in : List ℕ → Option ℕ
number_in [] = None
number_in (first ∷ bytes) = if first == 48 then None else decimal_from 0 (first ∷ bytes)

abbrev pub within : ℕ → ℕ → ℕ → Option ℕ
within least most number = if nat_lt number least || nat_lt most number then None else Some number

-- the number between two bounds that a word is
abbrev pub number_between : ℕ → ℕ → List ℕ → Option ℕ
number_between least most word = option_and_then (within least most) (number_in word)
