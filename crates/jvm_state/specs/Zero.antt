-- Division by 0 (JVMS 6.5, `idiv`, `ldiv`).
use Rattle.std.specs.Prelude.{List, ◌∷◌, if◌then◌else◌}
use Rattle.program_rules.specs.declared.operation.Operation.{Operation}
use Rattle.program_rules.specs.declared.fault.Fault.TheVariants.{ArithmeticException}
use Rattle.machine_rules.specs.declared.machine.Limits.{Limits}
use Rattle.machine_rules.specs.Arithmetic.{divides_by_zero}
use Rattle.machine_rules.specs.State.{Frame, World}
use Rattle.machine_rules.specs.Effects.{Effect, NoRow, on_ints, on_longs, throws}

-- What is left of an operation on two ints where it gives no result: it throws where it divides by
-- 0, else it has no row.
abbrev pub throws_by_int_zero : Operation → Limits → World → Frame → List Frame → Effect
throws_by_int_zero op q w f fs =
    on_ints f.stack (λ x y rest.
    if divides_by_zero op y then throws q w (f ∷ fs) ArithmeticException else NoRow)

-- The same of two longs.
abbrev pub throws_by_long_zero : Operation → Limits → World → Frame → List Frame → Effect
throws_by_long_zero op q w f fs =
    on_longs f.stack (λ x y rest.
    if divides_by_zero op y then throws q w (f ∷ fs) ArithmeticException else NoRow)
