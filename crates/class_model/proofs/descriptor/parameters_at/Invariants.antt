use Rattle.std.proofs.Common.{◌≡◌, length}
use Rattle.std.specs.Option.{option_map}
use Rattle.class_model.specs.Steps.{kinds_at}
use Rattle.class_model.proofs.ParameterLaws.{in_front}
use Rattle.class_model.proofs.descriptor.parameters_at.Given as goal

abbrev pub invariant-loop-kinds : goal.invariant-loop-kinds
invariant-loop-kinds l = kinds_at l.units ≡ option_map (in_front l.kinds) (kinds_at l.rest)

abbrev pub decreases-loop-kinds : goal.decreases-loop-kinds
decreases-loop-kinds l = length l.rest
