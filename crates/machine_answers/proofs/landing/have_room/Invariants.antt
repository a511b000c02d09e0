use Rattle.std.proofs.Common.{◌≡◌, ◌<◌, ℕ, Some}
use Rattle.std.specs.Prelude.{slice_get}
use Rattle.class_link.specs.declared.linked.LinkedMethod.{LinkedMethod}
use Rattle.machine_answers.specs.Landing.{HasRoom}
use Rattle.machine_answers.proofs.landing.have_room.Given as goal

abbrev pub invariant-loop-method : goal.invariant-loop-method
invariant-loop-method l = (k : ℕ) (x : LinkedMethod) → k < l.method-index → slice_get l.methods k ≡ Some x → HasRoom x
