-- What is read of a tree, one step after the other.
use Rattle.std.proofs.Common.{◌∙◌, ℕ, ◌≤◌, arith, Option, Result, Ok, Err}
use Rattle.mt_edge.specs.Files.{Files}
use Rattle.mutest_engine.specs.Steps.{FailsReading, IsRead, Halts}
use Rattle.mutest_engine.specs.declared.refusal.Refusal.{Refusal}
use Rattle.mutest_engine.specs.declared.stop.Halt.{Halt}
use Rattle.std.specs.Prelude.{IfErr}

-- Faults of a later step are faults of the whole.
fails_since : (old between new : ℕ) (h : Halt) → old ≤ between → FailsReading between new h → FailsReading old new h
fails_since old between new h le failed faults is = let some = failed faults is in let now = some.1 in (some.0, omega (arith, le, now))

halts_since : (P : Refusal → Type 0) (r0 r1 r2 : ℕ) (h : Halt) → r0 ≤ r1 → Halts P r1 r2 h → Halts P r0 r2 h
halts_since P r0 r1 r2 h le halts = (halts.0, fails_since r0 r1 r2 h le halts.1)

none_fails : {X : Type 0} (P : Refusal → Type 0) (r0 r1 r2 : ℕ) (r : Result X Halt) → r0 ≤ r1 → IfErr r (Halts P r1 r2) → IfErr r (Halts P r0 r2)
none_fails P r0 r1 r2 (Ok x) le halts = tt
none_fails P r0 r1 r2 (Err h) le halts = halts_since P r0 r1 r2 h le halts

later : (r0 r1 r2 : ℕ) → r0 ≤ r1 → r1 ≤ r2 → r0 ≤ r2
later r0 r1 r2 one other = omega (arith, one, other)

pub is_read_on : (h0 h1 h2 : Option Files) (w0 w1 w2 r0 r1 r2 : ℕ) → IsRead h0 h1 w0 w1 r0 r1 → IsRead h1 h2 w1 w2 r1 r2 → IsRead h0 h2 w0 w2 r0 r2
is_read_on h0 h1 h2 w0 w1 w2 r0 r1 r2 one other = (other.0 ∙ one.0, other.1 ∙ one.1, later r0 r1 r2 one.2 other.2)

-- A step behind another: what it answers,
pub reads_on : {X : Type 0} (P : Refusal → Type 0) (h0 h1 h2 : Option Files) (w0 w1 w2 r0 r1 r2 : ℕ) (r : Result X Halt) → IsRead h0 h1 w0 w1 r0 r1
    → IsRead h1 h2 w1 w2 r1 r2 × IfErr r (Halts P r1 r2) → IsRead h0 h2 w0 w2 r0 r2 × IfErr r (Halts P r0 r2)
reads_on P h0 h1 h2 w0 w1 w2 r0 r1 r2 r one other = (is_read_on h0 h1 h2 w0 w1 w2 r0 r1 r2 one other.0, none_fails P r0 r1 r2 r one.2 other.1)

-- and where it halts.
pub halts_on : (P : Refusal → Type 0) (h0 h1 h2 : Option Files) (w0 w1 w2 r0 r1 r2 : ℕ) (h : Halt) → IsRead h0 h1 w0 w1 r0 r1
    → IsRead h1 h2 w1 w2 r1 r2 × Halts P r1 r2 h → IsRead h0 h2 w0 w2 r0 r2 × Halts P r0 r2 h
halts_on P h0 h1 h2 w0 w1 w2 r0 r1 r2 h one other = (is_read_on h0 h1 h2 w0 w1 w2 r0 r1 r2 one other.0, halts_since P r0 r1 r2 h one.2 other.1)

-- The same of a step of which only this is known.
pub only_on : {X : Type 0} (h0 h1 h2 : Option Files) (w0 w1 w2 r0 r1 r2 : ℕ) (r : Result X Halt) → IsRead h0 h1 w0 w1 r0 r1
    → IsRead h1 h2 w1 w2 r1 r2 × IfErr r (FailsReading r1 r2) → IsRead h0 h2 w0 w2 r0 r2 × IfErr r (FailsReading r0 r2)
only_on h0 h1 h2 w0 w1 w2 r0 r1 r2 (Ok x) one other = (is_read_on h0 h1 h2 w0 w1 w2 r0 r1 r2 one other.0, tt)
only_on h0 h1 h2 w0 w1 w2 r0 r1 r2 (Err h) one other = (is_read_on h0 h1 h2 w0 w1 w2 r0 r1 r2 one other.0, fails_since r0 r1 r2 h one.2 other.1)
