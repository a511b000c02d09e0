-- Steps one after the other, up to the first fault (this project's own). The type of the faults is
-- the caller's.
use Rattle.std.specs.Prelude.{Bool, Option, Some, None, Result, Ok, Err, if◌then◌else◌}

-- A step, and behind it another that is told what the first one gave; the first fault ends both.
infixl 10 ◌>>=◌
abbrev pub ◌>>=◌ : {F A B : Type 0} → Result A F → (A → Result B F) → Result B F
(Ok value) >>= next = next value
(Err fault) >>= next = Err fault

-- A step of another type of faults, each of which counts as one of ours.
abbrev pub or_fault : {E F A : Type 0} → (E → F) → Result A E → Result A F
or_fault fault (Ok value) = Ok value
or_fault fault (Err error) = Err (fault error)

-- A value that was read has to pass a test; else there is this fault.
abbrev pub checked : {F A R : Type 0} → (A → Bool) → F → Result (A × R) F → Result (A × R) F
checked test fault read = read >>= λ x. if test x.0 then Ok x else Err fault

-- A value passes, unless there is a fault.
abbrev pub unless : {F A : Type 0} → Option F → A → Result A F
unless None value = Ok value
unless (Some fault) value = Err fault
