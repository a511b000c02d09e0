-- When an object of the outside may say that a call failed. This project's own.
use Rattle.std.specs.Prelude.{ℕ, ◌+◌, ◌-◌, ◌^◌, ◌≤◌, min, Result, IsErrOf}
use Rattle.mt_edge.specs.declared.outside.EdgeFault.{EdgeFault}
use Rattle.mt_edge.specs.declared.outside.EdgeFault.TheVariants.{Failed}

-- the count of faults rose, or stands at its end, 2^64 - 1, which counts as risen
abbrev pub Rose : ℕ → ℕ → Type 0
Rose before now = min (before + 1) (2 ^ 64 - 1) ≤ now

-- a count never falls, and a call answers Failed only where it rose
pub record HasCause {T : Type 0} (before now : ℕ) (result : Result T EdgeFault) : Type 0 where
  pub later : before ≤ now
  pub failed : IsErrOf result Failed → Rose before now
