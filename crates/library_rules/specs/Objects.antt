-- java/lang/Object, Class, Enum, Throwable and java/util/Optional. `<init>` of those that keep
-- nothing is `do_nothing` of `program_rules`.
use Rattle.std.specs.Prelude.{ℕ, ℤ, ◌-ℤ◌, Bool, true, false, nat_eq, if◌then◌else◌, List, [], ◌∷◌, ◌++◌, map, Option, Some, None, slice_get, slice_set, codes}
use Rattle.std.specs.Fmt.{digits}
use Rattle.std.specs.Int.{w32, int_wrap}
use Rattle.program_rules.specs.declared.value.Value.{Value}
use Rattle.program_rules.specs.declared.value.Value.TheVariants.{Int, Long, Ref, Null}
use Rattle.program_rules.specs.declared.fault.Fault.TheVariants.{ClassCastException, NullPointerException, NoSuchElementException}
use Rattle.program_rules.specs.declared.making.Making.TheVariants as making
use Rattle.program_rules.specs.Names.{Name}
use Rattle.program_rules.specs.Objects.{Object, ObjectKind, Plain, ArrayOf, descriptor_of_object}
use Rattle.program_rules.specs.Deeds.{Deed, Changes, Makes, GivesClass, GivesWithin, Throws, NoDeed, Meaning, SetItems, SetValues, on_some}
use Rattle.program_rules.specs.Natives.{on_this, on_this_value, on_object, kept_int}
use Rattle.library_rules.specs.Arguments.{on_receiver, on_receiver_value, on_this_value_int, on_this_values, on_value, on_needed, on_needed_number, is_ref_to, word, gives, gives_int, gives_bool}
use Rattle.library_rules.specs.Texts.{makes_text}

-- ---- Object, and those that Enum has from it

-- equals(Object), by identity
abbrev pub same_object : Meaning
same_object heap args = on_this_value args (λ x v. gives_bool (is_ref_to x v))

-- hashCode(): the number of the allocation
abbrev pub allocation_number : Meaning
allocation_number heap args = on_this args (λ x. gives_int (word x))

-- A dot for a slash: `/` is 47, `.` is 46.
abbrev pub dot_for : ℕ → ℕ
dot_for u = if nat_eq u 47 then 46 else u

-- The name of a class with dots.
abbrev pub dotted : List ℕ → List ℕ
dotted units = map dot_for units

-- The name of an object's class; an array's is its descriptor.
abbrev pub name_of_kind : ObjectKind → List ℕ
name_of_kind (Plain n) = n
name_of_kind (ArrayOf k) = descriptor_of_object (ArrayOf k)

-- getClass()
abbrev pub object_class : Meaning
object_class heap args = on_receiver heap args (λ o. GivesClass (name_of_kind o.kind))

-- toString(): `@` is 64, and the number of the allocation is in hexadecimal.
abbrev pub object_text : Meaning
object_text heap args =
    on_this args (λ x. on_object heap x (λ o.
    makes_text (dotted (name_of_kind o.kind) ++ 64 ∷ digits 16 false x)))

-- ---- Class: an object of a class keeps the class's name

-- Class.getName()
abbrev pub name_of_class : Meaning
name_of_class heap args = on_receiver heap args (λ o. makes_text (dotted o.text))

-- Class.desiredAssertionStatus()
abbrev pub assertion_status : Meaning
assertion_status heap args = on_this args (λ x. gives_bool false)

-- ---- Enum: a constant keeps its name and its ordinal

-- `<init>`(String I)
abbrev pub enum_init : Meaning
enum_init heap args =
    on_this_value_int args (λ x v z. Changes x (SetItems (v ∷ Int z ∷ [])) 0 None)

-- The name that is kept, null where none is: so it is in a constant on which no `<init>` ran.
abbrev pub kept_name : Option Value → Value
kept_name None = Null
kept_name (Some v) = v

-- name(), toString()
abbrev pub enum_name : Meaning
enum_name heap args = on_receiver heap args (λ o. gives (kept_name (slice_get o.items 0)))

-- The ordinal that is kept, 0 where none is.
abbrev pub ordinal_in : Object → ℤ
ordinal_in o = kept_int (slice_get o.items 1)

-- ordinal()
abbrev pub enum_ordinal : Meaning
enum_ordinal heap args = on_receiver heap args (λ o. gives_int (ordinal_in o))

-- The difference of the ordinals, in int arithmetic.
abbrev pub enum_order : Object → Object → ℤ
enum_order o other = int_wrap w32 (ordinal_in o -ℤ ordinal_in other)

-- compareTo(Enum)
abbrev pub compare_enum : Meaning
compare_enum heap args =
    on_receiver_value heap args (λ o v. on_needed heap v (λ other. gives_int (enum_order o other)))

-- The class of constants.
abbrev pub enum_class : Name
enum_class = codes "java/lang/Enum"

-- compareTo(Object): of what is no constant it throws.
abbrev pub compare_any_enum : Meaning
compare_any_enum heap args =
    on_receiver_value heap args (λ o v. on_needed_number heap v (λ y other.
    GivesWithin y enum_class (Int (enum_order o other)) ClassCastException))

-- ---- Throwable: its first field is the message, its second one the cause

-- A field of the receiver.
abbrev pub field_value : ℕ → Meaning
field_value k heap args = on_receiver heap args (λ o. on_some (slice_get o.values k) gives)

-- getMessage()
abbrev pub message : Meaning
message = field_value 0

-- getCause()
abbrev pub cause : Meaning
cause = field_value 1

-- A field of the receiver is set to an argument.
abbrev pub set_field : ℕ → Meaning
set_field k heap args =
    on_this_value args (λ x v. on_object heap x (λ o.
    Changes x (SetValues (slice_set o.values k v)) 0 None))

-- `<init>`(String)
abbrev pub set_message : Meaning
set_message = set_field 0

-- `<init>`(Throwable): the message stays null.
abbrev pub set_cause : Meaning
set_cause = set_field 1

-- `<init>`(String Throwable)
abbrev pub set_message_and_cause : Meaning
set_message_and_cause heap args =
    on_this_values args (λ x u v. on_object heap x (λ o.
    Changes x (SetValues (slice_set (slice_set o.values 0 u) 1 v)) 0 None))

-- ---- Optional: it keeps one value, or none

-- An Optional takes two words.
abbrev pub makes_optional : List Value → Deed
makes_optional items = Makes making.Optional [] items 1

-- empty()
abbrev pub empty_optional : Meaning
empty_optional heap [] = makes_optional []
empty_optional heap (v ∷ vs) = NoDeed

-- of(Object)
abbrev pub optional_of : Meaning
optional_of heap args = on_value args of_value
  where
    of_value : Value → Deed
    of_value Null = Throws NullPointerException
    of_value (Int z) = makes_optional (Int z ∷ [])
    of_value (Long z) = makes_optional (Long z ∷ [])
    of_value (Ref x) = makes_optional (Ref x ∷ [])

-- What is kept of a value: of null nothing.
abbrev pub if_any : Value → List Value
if_any Null = []
if_any (Int z) = Int z ∷ []
if_any (Long z) = Long z ∷ []
if_any (Ref x) = Ref x ∷ []

-- ofNullable(Object)
abbrev pub optional_of_nullable : Meaning
optional_of_nullable heap args = on_value args (λ v. makes_optional (if_any v))

-- isPresent()
abbrev pub is_present : Meaning
is_present heap args = on_receiver heap args (λ o. gives_bool (is_any o.items))
  where
    is_any : List Value → Bool
    is_any [] = false
    is_any (v ∷ vs) = true

abbrev pub first_or : Deed → List Value → Deed
first_or none [] = none
first_or none (v ∷ vs) = gives v

-- get()
abbrev pub optional_value : Meaning
optional_value heap args =
    on_receiver heap args (λ o. first_or (Throws NoSuchElementException) o.items)

-- orElse(Object)
abbrev pub optional_or_else : Meaning
optional_or_else heap args = on_receiver_value heap args (λ o v. first_or (gives v) o.items)
