use Rattle.std.proofs.Common.{◌≡◌, ◌<◌, ℕ, Some}
use Rattle.std.specs.Prelude.{slice_get}
use Rattle.class_link.specs.declared.linked.LinkedMethod.{LinkedMethod}
use Rattle.type_verifier.specs.ProgramTables.{HasShortCode}
use Rattle.type_verifier.proofs.numbers.have_short_code.Given as goal

abbrev pub invariant-loop-method : goal.invariant-loop-method
invariant-loop-method l = (k : ℕ) (x : LinkedMethod) → k < l.method-index → slice_get l.methods k ≡ Some x → HasShortCode x
