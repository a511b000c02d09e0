-- The boxes of numbers, chars and booleans, and what Integer, Long, Character and Math do with
-- plain ones.
use Rattle.std.specs.Prelude.{ℕ, ◌+◌, ◌-◌, ◌*◌, ◌/◌, ◌^◌, ℤ, pos, negsuc, ◌+ℤ◌, ◌-ℤ◌, neg_ℤ, int_le, int_lt, int_rem, Bool, false, ◌&&◌, ◌||◌, nat_le, nat_lt, nat_eq, if◌then◌else◌, List, [], ◌∷◌, Option, Some, None, slice_get}
use Rattle.std.specs.Fmt.{signed_decimal}
use Rattle.std.specs.Int.{w32, w64, cast_unsigned, int_wrap, int_bit_xor}
use Rattle.std.specs.Ordering.{int_eq}
use Rattle.program_rules.specs.declared.value.Value.{Value}
use Rattle.program_rules.specs.declared.value.Value.TheVariants.{Int, Long, Ref, Null}
use Rattle.program_rules.specs.declared.fault.Fault.TheVariants.{ArithmeticException, NumberFormatException}
use Rattle.program_rules.specs.declared.making.Making.{Making}
use Rattle.program_rules.specs.declared.making.Making.TheVariants as making
use Rattle.program_rules.specs.Kinds.{OfByte, OfChar, narrow}
use Rattle.program_rules.specs.Objects.{Object}
use Rattle.program_rules.specs.Deeds.{Deed, Makes, Boxes, Throws, Meaning, value_object}
use Rattle.program_rules.specs.Natives.{on_int, is_true, has_one_box, box_number, kept_int}
use Rattle.library_rules.specs.Arguments.{on_receiver, on_receiver_value, on_ints, on_long, on_longs, on_value, on_needed, on_text, is_made_of, gives, gives_int, bit, gives_bool}
use Rattle.library_rules.specs.Texts.{makes_text, bool_text, char_unit}

-- ---- boxes: Integer.valueOf(I), Short.valueOf(S) and intValue() stand in `program_rules`

-- Byte.valueOf(B): each byte has its one object.
abbrev pub byte_value_of : Meaning
byte_value_of heap args = on_int args (λ z. box_number making.Byte (narrow OfByte z))

-- Character.valueOf(C): one object for each char below 128 (JLS 5.1.7).
abbrev pub char_value_of : Meaning
char_value_of heap args = on_int args (λ z. box_number making.Character (narrow OfChar z))

-- Boolean.valueOf(Z): two objects.
abbrev pub bool_value_of : Meaning
bool_value_of heap args = on_int args (λ z. Boxes making.Boolean (Int (bit (is_true z))))

-- Of a long that has no one object a new one of two words is made for each use.
abbrev pub box_long : ℤ → Deed
box_long z =
    if has_one_box z then Boxes making.Long (Long z) else Makes making.Long [] (Long z ∷ []) 1

-- Long.valueOf(J)
abbrev pub long_value_of : Meaning
long_value_of heap args = on_long args box_long

-- The long that is kept, 0 where none is: so it is in an object on which no `<init>` ran.
abbrev pub kept_long : Option Value → ℤ
kept_long None = pos 0
kept_long (Some (Int z)) = pos 0
kept_long (Some (Long z)) = z
kept_long (Some (Ref x)) = pos 0
kept_long (Some Null) = pos 0

-- The int, or the long, that an object keeps.
abbrev pub int_in : Object → ℤ
int_in o = kept_int (slice_get o.items 0)

abbrev pub long_in : Object → ℤ
long_in o = kept_long (slice_get o.items 0)

-- Integer.longValue()
abbrev pub int_as_long : Meaning
int_as_long heap args = on_receiver heap args (λ o. gives (Long (int_in o)))

-- Long.longValue()
abbrev pub long_value : Meaning
long_value heap args = on_receiver heap args (λ o. gives (Long (long_in o)))

-- Long.intValue(): the low 32 bits.
abbrev pub long_as_int : Meaning
long_as_int heap args = on_receiver heap args (λ o. gives_int (int_wrap w32 (long_in o)))

-- Whether an object is a box of this class that keeps this int.
abbrev pub is_box_with : Making → ℤ → Option Object → Bool
is_box_with m z None = false
is_box_with m z (Some o) = is_made_of m o && int_eq (int_in o) z

-- Whether it is a Long that keeps this long.
abbrev pub is_long_with : ℤ → Option Object → Bool
is_long_with z None = false
is_long_with z (Some o) = is_made_of making.Long o && int_eq (long_in o) z

-- equals(Object) of a class of boxes of ints.
abbrev pub box_equals : Making → Meaning
box_equals m heap args =
    on_receiver_value heap args (λ o v. gives_bool (is_box_with m (int_in o) (value_object heap v)))

-- Long.equals(Object)
abbrev pub long_equals : Meaning
long_equals heap args =
    on_receiver_value heap args (λ o v. gives_bool (is_long_with (long_in o) (value_object heap v)))

-- The exclusive or of both halves of a long.
abbrev pub fold_halves : ℤ → ℤ
fold_halves z =
    int_wrap w32 (int_bit_xor w64 z (int_wrap w64 (pos (cast_unsigned w64 z / 2 ^ 32))))

-- Long.hashCode()
abbrev pub long_hash : Meaning
long_hash heap args = on_receiver heap args (λ o. gives_int (fold_halves (long_in o)))

-- Boolean.hashCode()
abbrev pub bool_hash : Meaning
bool_hash heap args =
    on_receiver heap args (λ o. gives_int (if is_true (int_in o) then pos 1231 else pos 1237))

-- toString() of Integer, Short and Byte.
abbrev pub box_text : Meaning
box_text heap args = on_receiver heap args (λ o. makes_text (signed_decimal (int_in o)))

-- Long.toString()
abbrev pub long_text : Meaning
long_text heap args = on_receiver heap args (λ o. makes_text (signed_decimal (long_in o)))

-- Character.toString()
abbrev pub char_box_text : Meaning
char_box_text heap args = on_receiver heap args (λ o. makes_text (char_unit (int_in o) ∷ []))

-- Boolean.toString()
abbrev pub bool_box_text : Meaning
bool_box_text heap args = on_receiver heap args (λ o. makes_text (bool_text (is_true (int_in o))))

-- -1, 0 or 1, where the first number is less, the same or greater.
abbrev pub order : ℤ → ℤ → ℤ
order y z = if int_lt y z then negsuc 0 else if int_lt z y then pos 1 else pos 0

-- Integer.compareTo(Integer)
abbrev pub compare_box : Meaning
compare_box heap args =
    on_receiver_value heap args (λ o v. on_needed heap v (λ other.
    gives_int (order (int_in o) (int_in other))))

-- Long.compareTo(Long)
abbrev pub compare_long_box : Meaning
compare_long_box heap args =
    on_receiver_value heap args (λ o v. on_needed heap v (λ other.
    gives_int (order (long_in o) (long_in other))))

-- compareTo of Short and Byte: the difference.
abbrev pub subtract_box : Meaning
subtract_box heap args =
    on_receiver_value heap args (λ o v. on_needed heap v (λ other.
    gives_int (int_wrap w32 (int_in o -ℤ int_in other))))

-- ---- plain numbers

-- Integer.compare(II)
abbrev pub compare_ints : Meaning
compare_ints heap args = on_ints args (λ y z. gives_int (order y z))

-- Long.compare(JJ)
abbrev pub compare_longs : Meaning
compare_longs heap args = on_longs args (λ y z. gives_int (order y z))

-- Whether a unit is one of `0` to `9`.
abbrev pub is_digit : ℕ → Bool
is_digit u = nat_le 48 u && nat_le u 57

-- The number that digits continue; one past every int is none.
abbrev pub digits_from : ℕ → List ℕ → Option ℕ
digits_from n [] = Some n
digits_from n (u ∷ us) =
    if is_digit u && nat_lt n 4294967296 then digits_from (n * 10 + (u - 48)) us else None

-- The number of at least one digit.
abbrev pub natural : List ℕ → Option ℕ
natural [] = None
natural (u ∷ us) = digits_from 0 (u ∷ us)

-- It as an int, and its opposite as one.
abbrev pub positive : Option ℕ → Option ℤ
positive None = None
positive (Some n) = if nat_lt n 2147483648 then Some (pos n) else None

abbrev pub negative : Option ℕ → Option ℤ
negative None = None
negative (Some n) = if nat_le n 2147483648 then Some (pos 0 -ℤ pos n) else None

-- ASCII digits behind at most one sign: `-` is 45, `+` is 43.
abbrev pub number_in : List ℕ → Option ℤ
number_in [] = None
number_in (u ∷ us) =
    if nat_eq u 45 then negative (natural us)
    else if nat_eq u 43 then positive (natural us)
    else positive (natural (u ∷ us))

abbrev pub gives_number : Option ℤ → Deed
gives_number None = Throws NumberFormatException
gives_number (Some z) = gives_int z

-- Integer.parseInt(String)
abbrev pub parse_int : Meaning
parse_int heap args = on_value args (λ v. on_text heap v (λ units. gives_number (number_in units)))

-- Whether an int is between two chars; an argument isn't narrowed.
abbrev pub is_between : ℕ → ℕ → ℤ → Bool
is_between low high z = int_le (pos low) z && int_le z (pos high)

-- Character.isDigit(C), of ASCII alone
abbrev pub char_is_digit : Meaning
char_is_digit heap args = on_int args (λ z. gives_bool (is_between 48 57 z))

-- Character.isLetter(C), of ASCII alone
abbrev pub char_is_letter : Meaning
char_is_letter heap args =
    on_int args (λ z. gives_bool (is_between 65 90 z || is_between 97 122 z))

-- ---- Math

-- What is left of a number without its sign; the least one stays itself.
abbrev pub absolute : ℤ → ℤ
absolute z = if int_lt z (pos 0) then neg_ℤ z else z

-- abs(I), abs(J)
abbrev pub abs_int : Meaning
abs_int heap args = on_int args (λ z. gives_int (int_wrap w32 (absolute z)))

abbrev pub abs_long : Meaning
abs_long heap args = on_long args (λ z. gives (Long (int_wrap w64 (absolute z))))

abbrev pub greater : ℤ → ℤ → ℤ
greater y z = if int_lt y z then z else y

abbrev pub less : ℤ → ℤ → ℤ
less y z = if int_lt y z then y else z

-- max(II), max(JJ), min(II), min(JJ)
abbrev pub max_int : Meaning
max_int heap args = on_ints args (λ y z. gives_int (greater y z))

abbrev pub max_long : Meaning
max_long heap args = on_longs args (λ y z. gives (Long (greater y z)))

abbrev pub min_int : Meaning
min_int heap args = on_ints args (λ y z. gives_int (less y z))

abbrev pub min_long : Meaning
min_long heap args = on_longs args (λ y z. gives (Long (less y z)))

-- Whether a remainder that isn't 0 has another sign than the divisor.
abbrev pub is_of_other_sign : ℤ → ℤ → Bool
is_of_other_sign r z = if int_lt r (pos 0) then int_lt (pos 0) z else int_lt (pos 0) r && int_lt z (pos 0)

-- The remainder of a division of ints that is rounded down: it has the divisor's sign (that of JLS
-- 15.17.3 has the dividend's).
abbrev pub floor_rem : ℤ → ℤ → ℤ
floor_rem y z =
    let r = int_rem y z in if is_of_other_sign r z then int_wrap w32 (r +ℤ z) else r

-- floorMod(II)
abbrev pub floor_mod : Meaning
floor_mod heap args =
    on_ints args (λ y z. if int_eq z (pos 0) then Throws ArithmeticException else gives_int (floor_rem y z))
