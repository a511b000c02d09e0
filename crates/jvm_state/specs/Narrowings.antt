-- The narrowing conversions of an int (JVMS 6.5, `i2b`, `i2c`, `i2s`).
use Rattle.std.specs.Prelude.{ℤ, ℕ, List}
use Rattle.program_rules.specs.declared.value.Value.TheVariants.{Int}
use Rattle.program_rules.specs.Kinds.{Kind, OfByte, OfChar, OfShort, narrow}
use Rattle.machine_rules.specs.State.{Frame, World}
use Rattle.machine_rules.specs.Effects.{Effect, on_int, pushes}
use Rattle.jvm_state.specs.declared.operating.Narrowing.{Narrowing}
use Rattle.jvm_state.specs.declared.operating.Narrowing.TheVariants.{ToByte, ToChar, ToShort}

-- The kind to which a conversion narrows.
abbrev pub kind_of : Narrowing → Kind
kind_of ToByte = OfByte
kind_of ToChar = OfChar
kind_of ToShort = OfShort

-- What a conversion leaves of an int.
abbrev pub left_of : Narrowing → ℤ → ℤ
left_of to z = narrow (kind_of to) z

-- Its row: the int on the top is narrowed.
abbrev pub narrows : World → Frame → List Frame → ℕ → Narrowing → Effect
narrows w f fs room to = on_int f.stack (λ z rest. pushes w f fs room (Int (left_of to z)) rest)
