use Rattle.std.proofs.Common.{◌≡◌, ◌++◌, length}
use Rattle.class_model.specs.Text.{text, IsUnits}
use Rattle.class_model.proofs.text.read_text.Given as goal

abbrev pub invariant-loop-rest : goal.invariant-loop-rest
invariant-loop-rest l = (text l.name ++ l.rest ≡ l.bytes) × IsUnits l.name

abbrev pub decreases-loop-rest : goal.decreases-loop-rest
decreases-loop-rest l = length l.rest
