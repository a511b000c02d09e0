-- Numbers: a minus sign or nothing, and digits without a leading zero (this project's own).
use Rattle.std.specs.Prelude.{ℕ, ◌+◌, ◌-◌, ◌*◌, ◌==◌, nat_lt, nat_le, ℤ, pos, negsuc, Bool, true, false, ◌&&◌, ◌||◌, List, [], ◌∷◌, length, Option, Some, None, option_and_then, if◌then◌else◌}
use Rattle.std.specs.Option.{option_map}

abbrev pub is_digit : ℕ → Bool
is_digit unit = nat_le 48 unit && nat_le unit 57

-- The number that digits continue. One of more than nineteen digits is past every range.
abbrev pub decimal_from : ℕ → List ℕ → Option ℕ
decimal_from value [] = Some value
decimal_from value (unit ∷ units) =
    if is_digit unit && nat_lt value 1_000_000_000_000_000_000
    then decimal_from (value * 10 + (unit - 48)) units
    else None

abbrev pub natural : List ℕ → Option ℕ
natural [] = None
natural (first ∷ units) =
    if first == 48 then (if length units == 0 then Some 0 else None)
    else decimal_from 0 (first ∷ units)

-- whether there is a minus sign, and the size
abbrev pub number_in : List ℕ → Option (Bool × ℕ)
number_in [] = None
number_in (first ∷ units) =
    if first == 45 then option_map (λ n. (true, n)) (natural units)
    else option_map (λ n. (false, n)) (natural (first ∷ units))

-- the number from 0 up to a bound that a word is
abbrev pub not_past : ℕ → Bool × ℕ → Option ℕ
not_past bound n = if n.0 && nat_lt 0 n.1 || nat_lt bound n.1 then None else Some n.1

abbrev pub up_to : ℕ → List ℕ → Option ℕ
up_to bound word = option_and_then (not_past bound) (number_in word)

-- the number with a sign that a word is: its negative is one below the bound at most
abbrev pub signed : ℕ → Bool × ℕ → Option ℤ
signed bound n =
    if n.0 && nat_lt 0 n.1 then (if nat_lt bound (n.1 - 1) then None else Some (negsuc (n.1 - 1)))
    else if nat_lt bound n.1 then None
    else Some (pos n.1)

abbrev pub between : ℕ → List ℕ → Option ℤ
between bound word = option_and_then (signed bound) (number_in word)
