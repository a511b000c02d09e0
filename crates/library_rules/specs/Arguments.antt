-- The arguments of native methods by their forms, and what stands behind them. Where the arguments
-- have another form there is no row. Forms of `program_rules` aren't repeated.
use Rattle.std.specs.Prelude.{ℕ, nat_eq, nat_lt, if◌then◌else◌, ℤ, pos, negsuc, Bool, true, false, List, [], ◌∷◌, Option, Some, None}
use Rattle.program_rules.specs.declared.value.Value.{Value}
use Rattle.program_rules.specs.declared.value.Value.TheVariants.{Int, Long, Ref, Null}
use Rattle.program_rules.specs.declared.fault.Fault.TheVariants.{NullPointerException}
use Rattle.program_rules.specs.declared.making.Making.{Making}
use Rattle.program_rules.specs.Names.{Name, same}
use Rattle.program_rules.specs.Objects.{Object, ObjectKind, Plain, ArrayOf}
use Rattle.program_rules.specs.Deeds.{Deed, Gives, Throws, NoDeed, making_name}
use Rattle.program_rules.specs.Natives.{on_this, on_this_int, on_this_value, on_object}

-- ---- a receiver

-- Its object.
unfoldable pub on_receiver : List Object → List Value → (Object → Deed) → Deed
on_receiver heap args go = on_this args (λ x. on_object heap x go)

-- Its object, and an int.
unfoldable pub on_receiver_int : List Object → List Value → (Object → ℤ → Deed) → Deed
on_receiver_int heap args go = on_this_int args (λ x z. on_object heap x (λ o. go o z))

-- Its object, and any value.
unfoldable pub on_receiver_value : List Object → List Value → (Object → Value → Deed) → Deed
on_receiver_value heap args go = on_this_value args (λ x v. on_object heap x (λ o. go o v))

-- A receiver and two ints.
abbrev pub on_this_ints : List Value → (ℕ → ℤ → ℤ → Deed) → Deed
on_this_ints (Ref x ∷ Int y ∷ Int z ∷ []) go = go x y z
on_this_ints args go = NoDeed

-- A receiver and a long.
abbrev pub on_this_long : List Value → (ℕ → ℤ → Deed) → Deed
on_this_long (Ref x ∷ Long z ∷ []) go = go x z
on_this_long args go = NoDeed

-- A receiver, an int and any value.
abbrev pub on_this_int_value : List Value → (ℕ → ℤ → Value → Deed) → Deed
on_this_int_value (Ref x ∷ Int z ∷ v ∷ []) go = go x z v
on_this_int_value args go = NoDeed

-- A receiver, any value and an int.
abbrev pub on_this_value_int : List Value → (ℕ → Value → ℤ → Deed) → Deed
on_this_value_int (Ref x ∷ v ∷ Int z ∷ []) go = go x v z
on_this_value_int args go = NoDeed

-- A receiver and two values.
abbrev pub on_this_values : List Value → (ℕ → Value → Value → Deed) → Deed
on_this_values (Ref x ∷ u ∷ v ∷ []) go = go x u v
on_this_values args go = NoDeed

-- A receiver, an int and two values.
abbrev pub on_this_int_values : List Value → (ℕ → ℤ → Value → Value → Deed) → Deed
on_this_int_values (Ref x ∷ Int z ∷ u ∷ v ∷ []) go = go x z u v
on_this_int_values args go = NoDeed

-- ---- no receiver

-- Two ints.
abbrev pub on_ints : List Value → (ℤ → ℤ → Deed) → Deed
on_ints (Int y ∷ Int z ∷ []) go = go y z
on_ints args go = NoDeed

-- A long.
abbrev pub on_long : List Value → (ℤ → Deed) → Deed
on_long (Long z ∷ []) go = go z
on_long args go = NoDeed

-- Two longs.
abbrev pub on_longs : List Value → (ℤ → ℤ → Deed) → Deed
on_longs (Long y ∷ Long z ∷ []) go = go y z
on_longs args go = NoDeed

-- Any value.
abbrev pub on_value : List Value → (Value → Deed) → Deed
on_value (v ∷ []) go = go v
on_value args go = NoDeed

-- Two values.
abbrev pub on_values : List Value → (Value → Value → Deed) → Deed
on_values (u ∷ v ∷ []) go = go u v
on_values args go = NoDeed

-- ---- what an argument names

-- The object that is needed: null throws.
abbrev pub on_needed : List Object → Value → (Object → Deed) → Deed
on_needed heap Null go = Throws NullPointerException
on_needed heap (Ref x) go = on_object heap x go
on_needed heap (Int z) go = NoDeed
on_needed heap (Long z) go = NoDeed

-- The same with its number.
abbrev pub on_needed_number : List Object → Value → (ℕ → Object → Deed) → Deed
on_needed_number heap Null go = Throws NullPointerException
on_needed_number heap (Ref x) go = on_object heap x (go x)
on_needed_number heap (Int z) go = NoDeed
on_needed_number heap (Long z) go = NoDeed

-- The text that is needed: null throws.
abbrev pub on_text : List Object → Value → (List ℕ → Deed) → Deed
on_text heap v go = on_needed heap v (λ o. go o.text)

-- Whether a value is the reference to an object.
abbrev pub is_ref_to : ℕ → Value → Bool
is_ref_to x (Ref y) = nat_eq x y
is_ref_to x (Int z) = false
is_ref_to x (Long z) = false
is_ref_to x Null = false

-- A place that isn't negative.
abbrev pub place_of : ℤ → Option ℕ
place_of (pos n) = Some n
place_of (negsuc n) = None

-- Whether what was allocated is of a class.
abbrev pub is_kind_of : Name → ObjectKind → Bool
is_kind_of n (Plain c) = same c n
is_kind_of n (ArrayOf k) = false

-- Whether an object is of this very class of the library.
abbrev pub is_made_of : Making → Object → Bool
is_made_of m o = is_kind_of (making_name m) o.kind

-- ---- what is given

-- A length or a place as an int; one past every int is told as -1.
abbrev pub word : ℕ → ℤ
word n = if nat_lt n 2147483648 then pos n else negsuc 0

-- A value is given.
abbrev pub gives : Value → Deed
gives v = Gives (Some v)

-- An int is given.
abbrev pub gives_int : ℤ → Deed
gives_int z = gives (Int z)

-- A boolean as an int.
abbrev pub bit : Bool → ℤ
bit true = pos 1
bit false = pos 0

-- A boolean is given.
abbrev pub gives_bool : Bool → Deed
gives_bool b = gives_int (bit b)
