-- java/lang/String and java/lang/StringBuilder. Texts are lists of UTF-16 code units.
use Rattle.std.specs.Prelude.{ℕ, suc, ◌+◌, ◌-◌, ◌/◌, ◌%◌, ℤ, pos, negsuc, ◌+ℤ◌, ◌-ℤ◌, ◌*ℤ◌, unsigned_abs, Bool, true, false, ◌&&◌, nat_le, nat_lt, nat_eq, if◌then◌else◌, List, [], ◌∷◌, ◌++◌, length, take, drop, Option, Some, None, slice_get, codes}
use Rattle.std.specs.Fmt.{signed_decimal}
use Rattle.std.specs.Int.{w32, int_wrap}
use Rattle.std.specs.List.{starts_with, ends_with}
use Rattle.program_rules.specs.declared.value.Value.TheVariants.{Ref}
use Rattle.program_rules.specs.declared.fault.Fault.TheVariants.{NegativeArraySizeException, StringIndexOutOfBoundsException, ClassCastException}
use Rattle.program_rules.specs.declared.making.Making.TheVariants as making
use Rattle.program_rules.specs.Names.{same}
use Rattle.program_rules.specs.Kinds.{OfChar, narrow}
use Rattle.program_rules.specs.Objects.{Object}
use Rattle.program_rules.specs.Deeds.{Deed, Gives, Changes, Makes, MakesChars, Throws, Meaning, SetText, AddText, value_object}
use Rattle.program_rules.specs.Natives.{on_this, on_this_int, on_this_value, on_int, on_object, is_true}
use Rattle.library_rules.specs.Arguments.{on_receiver, on_receiver_int, on_receiver_value, on_this_ints, on_this_long, on_long, on_needed, on_text, place_of, is_made_of, word, gives, gives_int, gives_bool}

-- A new String: two words, and one for each unit.
abbrev pub makes_text : List ℕ → Deed
makes_text units = Makes making.Text units [] (1 + length units)

-- ---- single units

-- length()
abbrev pub text_length : Meaning
text_length heap args = on_receiver heap args (λ o. gives_int (word (length o.text)))

-- isEmpty()
abbrev pub is_empty : Meaning
is_empty heap args = on_receiver heap args (λ o. gives_bool (nat_eq (length o.text) 0))

-- The unit at a place, if there is one.
abbrev pub unit_at : List ℕ → Option ℕ → Option ℕ
unit_at units None = None
unit_at units (Some i) = slice_get units i

abbrev pub gives_unit : Option ℕ → Deed
gives_unit None = Throws StringIndexOutOfBoundsException
gives_unit (Some u) = gives_int (pos u)

-- charAt(I)
abbrev pub char_at : Meaning
char_at heap args = on_receiver_int heap args (λ o z. gives_unit (unit_at o.text (place_of z)))

-- ---- equality, order, hash

-- Whether an object is a String of these units.
abbrev pub is_text : List ℕ → Option Object → Bool
is_text units None = false
is_text units (Some o) = is_made_of making.Text o && same o.text units

-- equals(Object)
abbrev pub text_equals : Meaning
text_equals heap args =
    on_receiver_value heap args (λ o v. gives_bool (is_text o.text (value_object heap v)))

-- In int arithmetic.
abbrev pub hash_step : ℤ → ℕ → ℤ
hash_step z u = int_wrap w32 (int_wrap w32 (z *ℤ pos 31) +ℤ pos u)

-- The polynomial in 31 whose coefficients are the units, the last one's power 0.
abbrev pub hash_from : ℤ → List ℕ → ℤ
hash_from z [] = z
hash_from z (u ∷ us) = hash_from (hash_step z u) us

-- hashCode()
abbrev pub text_hash : Meaning
text_hash heap args = on_receiver heap args (λ o. gives_int (hash_from (pos 0) o.text))

-- The difference of the first units that differ, if some do.
abbrev pub first_difference : List ℕ → List ℕ → Option ℤ
first_difference [] other = None
first_difference (u ∷ us) [] = None
first_difference (u ∷ us) (v ∷ vs) =
    if nat_eq u v then first_difference us vs else Some (pos u -ℤ pos v)

abbrev pub number_or : ℤ → Option ℤ → ℤ
number_or z None = z
number_or z (Some d) = d

-- Less than 0, 0, or more, as the first text stands before the second, is the same, or stands
-- behind: the difference of the first units that differ, else that of the lengths.
abbrev pub text_order : List ℕ → List ℕ → ℤ
text_order us vs =
    number_or (int_wrap w32 (word (length us) -ℤ word (length vs))) (first_difference us vs)

-- compareTo(String)
abbrev pub compare_text : Meaning
compare_text heap args =
    on_receiver_value heap args (λ o v. on_text heap v (λ units. gives_int (text_order o.text units)))

abbrev pub order_with : List ℕ → Object → Deed
order_with units o =
    if is_made_of making.Text o then gives_int (text_order units o.text)
    else Throws ClassCastException

-- compareTo(Object): of another class than String it throws.
abbrev pub compare_any_text : Meaning
compare_any_text heap args =
    on_receiver_value heap args (λ o v. on_needed heap v (order_with o.text))

-- ---- parts

-- concat(String)
abbrev pub concat : Meaning
concat heap args =
    on_receiver_value heap args (λ o v. on_text heap v (λ units. makes_text (o.text ++ units)))

-- The places from one up to another, where they stand in order within so many units.
abbrev pub span_within : ℕ → Option ℕ → Option ℕ → Option (ℕ × ℕ)
span_within len (Some i) (Some j) = if nat_le i j && nat_le j len then Some (i, j) else None
span_within len (Some i) None = None
span_within len None j = None

abbrev pub makes_part : List ℕ → Option (ℕ × ℕ) → Deed
makes_part units None = Throws StringIndexOutOfBoundsException
makes_part units (Some span) = makes_text (take (span.1 - span.0) (drop span.0 units))

-- substring(II): from the first place up to the one before the second.
abbrev pub substring : Meaning
substring heap args =
    on_this_ints args (λ x begin end. on_object heap x (λ o.
    makes_part o.text (span_within (length o.text) (place_of begin) (place_of end))))

-- substring(I): up to the end.
abbrev pub substring_from : Meaning
substring_from heap args =
    on_receiver_int heap args (λ o begin.
    makes_part o.text (span_within (length o.text) (place_of begin) (Some (length o.text))))

-- ---- search

-- The first place where a text stands, counted from i.
abbrev pub index_from : List ℕ → ℕ → List ℕ → Option ℕ
index_from wanted i [] = if nat_eq (length wanted) 0 then Some i else None
index_from wanted i (u ∷ us) =
    if starts_with nat_eq (u ∷ us) wanted then Some i else index_from wanted (suc i) us

abbrev pub index_or_none : Option ℕ → ℤ
index_or_none None = negsuc 0
index_or_none (Some i) = word i

-- The place of a text, -1 where it doesn't stand.
abbrev pub index_in : List ℕ → List ℕ → ℤ
index_in units wanted = index_or_none (index_from wanted 0 units)

-- indexOf(String)
abbrev pub index_of_text : Meaning
index_of_text heap args =
    on_receiver_value heap args (λ o v. on_text heap v (λ wanted. gives_int (index_in o.text wanted)))

-- The units of a code point, if it is one: above U+FFFF a surrogate pair.
abbrev pub units_of_point : Option ℕ → Option (List ℕ)
units_of_point None = None
units_of_point (Some n) =
    if nat_lt n 65536 then Some (n ∷ [])
    else if nat_lt n 1114112 then Some ((55296 + (n - 65536) / 1024) ∷ (56320 + n % 1024) ∷ [])
    else None

abbrev pub index_of_units : List ℕ → Option (List ℕ) → ℤ
index_of_units units None = negsuc 0
index_of_units units (Some wanted) = index_in units wanted

-- indexOf(I)
abbrev pub index_of_char : Meaning
index_of_char heap args =
    on_receiver_int heap args (λ o z. gives_int (index_of_units o.text (units_of_point (place_of z))))

-- startsWith(String)
abbrev pub text_starts_with : Meaning
text_starts_with heap args =
    on_receiver_value heap args (λ o v. on_text heap v (λ units.
    gives_bool (starts_with nat_eq o.text units)))

-- endsWith(String)
abbrev pub text_ends_with : Meaning
text_ends_with heap args =
    on_receiver_value heap args (λ o v. on_text heap v (λ units. gives_bool (ends_with nat_eq o.text units)))

-- ---- texts of other things

-- String.toString()
abbrev pub itself : Meaning
itself heap args = on_this args (λ x. gives (Ref x))

-- toCharArray()
abbrev pub text_chars : Meaning
text_chars heap args = on_receiver heap args (λ o. MakesChars o.text)

-- The name of a boolean.
abbrev pub bool_text : Bool → List ℕ
bool_text true = codes "true"
bool_text false = codes "false"

-- The unit that an int has as a char: an argument isn't narrowed yet.
abbrev pub char_unit : ℤ → ℕ
char_unit z = unsigned_abs (narrow OfChar z)

-- valueOf(I), and Integer.toString(I)
abbrev pub text_of_int : Meaning
text_of_int heap args = on_int args (λ z. makes_text (signed_decimal z))

-- valueOf(J)
abbrev pub text_of_long : Meaning
text_of_long heap args = on_long args (λ z. makes_text (signed_decimal z))

-- valueOf(C)
abbrev pub text_of_char : Meaning
text_of_char heap args = on_int args (λ z. makes_text (char_unit z ∷ []))

-- valueOf(Z)
abbrev pub text_of_bool : Meaning
text_of_bool heap args = on_int args (λ z. makes_text (bool_text (is_true z)))

-- ---- StringBuilder: `append(String)` and `toString()` stand in `program_rules`

-- `<init>`(I): a capacity, which makes no difference but that it isn't negative.
abbrev pub builder_of_capacity : Meaning
builder_of_capacity heap args = on_this_int args (λ x z. if_capacity (place_of z))
  where
    if_capacity : Option ℕ → Deed
    if_capacity None = Throws NegativeArraySizeException
    if_capacity (Some n) = Gives None

-- `<init>`(String): a word for each unit.
abbrev pub builder_of_text : Meaning
builder_of_text heap args =
    on_this_value args (λ x v. on_text heap v (λ units.
    Changes x (SetText units) (length units) None))

-- Units are added, a word for each.
abbrev pub appends : ℕ → List ℕ → Deed
appends x units = Changes x (AddText units) (length units) (Some (Ref x))

-- append(I)
abbrev pub append_int : Meaning
append_int heap args = on_this_int args (λ x z. appends x (signed_decimal z))

-- append(J)
abbrev pub append_long : Meaning
append_long heap args = on_this_long args (λ x z. appends x (signed_decimal z))

-- append(C)
abbrev pub append_char : Meaning
append_char heap args = on_this_int args (λ x z. appends x (char_unit z ∷ []))

-- append(Z)
abbrev pub append_bool : Meaning
append_bool heap args = on_this_int args (λ x z. appends x (bool_text (is_true z)))
