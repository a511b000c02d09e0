use Rattle.std.proofs.Common.{◌≡◌, ◌<◌, ℕ, Some}
use Rattle.std.specs.Prelude.{slice_get}
use Rattle.class_link.specs.Info.{Info}
use Rattle.machine_answers.specs.Landing.{HaveRoom}
use Rattle.machine_answers.proofs.landing.can_land.Given as goal

abbrev pub invariant-loop-id : goal.invariant-loop-id
invariant-loop-id l = (k : ℕ) (x : Info) → k < l.id → slice_get l.program k ≡ Some x → HaveRoom x.linked.methods
