-- How a quotient and a remainder are rounded (JVMS 6.5, `idiv` and `irem`).
use Rattle.std.specs.Prelude.{◌≡◌, ◌<◌, ◌⊎◌, ℤ, pos, ◌+ℤ◌, ◌*ℤ◌, ◌≤ℤ◌, unsigned_abs}

-- A quotient and a remainder of `a` by `b`: their law, how large the remainder is at most, and its
-- sign, which is the dividend's. No other two numbers are so.
pub record IsDivision (a b quotient rest : ℤ) : Type 0 where
  pub law : quotient *ℤ b +ℤ rest ≡ a
  pub small : unsigned_abs rest < unsigned_abs b
  pub sign : (rest ≡ pos 0) ⊎ (((pos 0 ≤ℤ a) × (pos 0 ≤ℤ rest)) ⊎ ((a ≤ℤ pos 0) × (rest ≤ℤ pos 0)))
