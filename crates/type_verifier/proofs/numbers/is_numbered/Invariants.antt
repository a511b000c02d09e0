use Rattle.std.proofs.Common.{◌≡◌, ◌<◌, ℕ, All, Some}
use Rattle.std.specs.Prelude.{slice_get}
use Rattle.class_link.specs.Info.{Info}
use Rattle.type_verifier.specs.ProgramTables.{HasShortCode}
use Rattle.type_verifier.proofs.numbers.is_numbered.Given as goal

abbrev pub invariant-loop-id : goal.invariant-loop-id
invariant-loop-id l = (k : ℕ) (x : Info) → k < l.id → slice_get l.program k ≡ Some x → All HasShortCode x.linked.methods
