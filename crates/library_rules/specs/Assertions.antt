-- org/junit/Assert and org/junit/jupiter/api/Assertions: one that fails throws AssertionError.
-- `assertTrue` and `assertFalse` stand in `program_rules`.
use Rattle.std.specs.Prelude.{Bool, true, false, not, if◌then◌else◌, None}
use Rattle.std.specs.Ordering.{int_eq}
use Rattle.program_rules.specs.declared.value.Value.{Value}
use Rattle.program_rules.specs.declared.value.Value.TheVariants.{Int, Long, Ref, Null}
use Rattle.program_rules.specs.declared.fault.Fault.TheVariants.{AssertionError}
use Rattle.program_rules.specs.Deeds.{Deed, Gives, Throws, Meaning}
use Rattle.library_rules.specs.Arguments.{on_ints, on_longs, on_value, on_values, is_ref_to}

-- Nothing is given where something holds.
abbrev pub asserts : Bool → Deed
asserts b = if b then Gives None else Throws AssertionError

-- assertEquals(II)
abbrev pub assert_equal_ints : Meaning
assert_equal_ints heap args = on_ints args (λ y z. asserts (int_eq y z))

-- assertEquals(JJ)
abbrev pub assert_equal_longs : Meaning
assert_equal_longs heap args = on_longs args (λ y z. asserts (int_eq y z))

-- Whether a value is null.
abbrev pub is_null : Value → Bool
is_null Null = true
is_null (Int z) = false
is_null (Long z) = false
is_null (Ref x) = false

-- assertNull(Object)
abbrev pub assert_null : Meaning
assert_null heap args = on_value args (λ v. asserts (is_null v))

-- assertNotNull(Object)
abbrev pub assert_not_null : Meaning
assert_not_null heap args = on_value args (λ v. asserts (not (is_null v)))

-- Whether two references name one object, or both are null.
abbrev pub is_same : Value → Value → Bool
is_same (Ref x) v = is_ref_to x v
is_same Null v = is_null v
is_same (Int z) v = false
is_same (Long z) v = false

-- assertSame(Object Object)
abbrev pub assert_same : Meaning
assert_same heap args = on_values args (λ u v. asserts (is_same u v))

-- assertNotSame(Object Object)
abbrev pub assert_not_same : Meaning
assert_not_same heap args = on_values args (λ u v. asserts (not (is_same u v)))

-- fail(), fail(String) and the `$fail` of written methods
abbrev pub fail : Meaning
fail heap args = Throws AssertionError
