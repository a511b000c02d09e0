use Rattle.std.proofs.Common.{◌≡◌, length}
use Rattle.mutant_checks.proofs.claims_tests.below_zero_is_replayed.Given as goal

abbrev pub invariant-loop-turn : goal.invariant-loop-turn
invariant-loop-turn g l = (length l.state.least ≡ 6) × (length l.state.lists ≡ 2)

abbrev pub invariant-loop-mutant : goal.invariant-loop-mutant
invariant-loop-mutant g l = length l.state.least ≡ 6
