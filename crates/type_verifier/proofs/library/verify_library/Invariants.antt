use Rattle.std.proofs.Common.{ℕ, ◌<◌}
use Rattle.type_verifier.specs.Libraries.{IsAcceptedInLibrary}
use Rattle.type_verifier.proofs.library.verify_library.Given as goal

abbrev pub invariant-loop-id : goal.invariant-loop-id
invariant-loop-id l = (j : ℕ) → j < l.id → IsAcceptedInLibrary l.program j
