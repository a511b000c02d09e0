-- A test of numbers in a row.
use Rattle.std.proofs.Common.{◌≡◌, refl, subst, ℕ, zero, suc, ◌+◌, ◌<◌, ◌≤◌, ltb, Bool, true, false, arith}
use Rattle.std.specs.Prelude.{◌&&◌}
use Rattle.std.proofs.lemmas.Bool.{ltb-true, ltb-false, and_parts}

unfoldable pub each : (ℕ → Bool) → ℕ → ℕ → Bool
each test zero op = true
each test (suc count) op = test op && each test count (suc op)

each_by : (test : ℕ → Bool) (count start op : ℕ) (above : Bool) → ltb start op ≡ above → each test (suc count) start ≡ true → start ≤ op → op < start + suc count
    → (each test count (suc start) ≡ true → suc start ≤ op → op < suc start + count → test op ≡ true) → test op ≡ true
unfolding each
each_by test count start op true above e le lt later = later (and_parts (test start) (each test count (suc start)) e).1 (omega (arith, ltb-true start op above)) (omega (arith, lt))
each_by test count start op false above e le lt later = let same : start ≡ op = omega (arith, le, ltb-false start op above) in subst (λ n. test n ≡ true) same (and_parts (test start) (each test count (suc start)) e).0

pub each_in : (test : ℕ → Bool) (count start op : ℕ) → each test count start ≡ true → start ≤ op → op < start + count → test op ≡ true
each_in test zero start op e le lt = absurd (omega (arith, le, lt))
each_in test (suc count) start op e le lt = each_by test count start op (ltb start op) refl e le lt (each_in test count (suc start) op)
