use Rattle.std.proofs.Common.{◌≡◌, ◌<◌, length}
use Rattle.std.specs.Option.{option_map}
use Rattle.class_model.specs.Steps.{kind_at}
use Rattle.class_model.proofs.DescriptorLaws.{wrapped}
use Rattle.class_model.proofs.descriptor.array_at.Given as goal

abbrev pub invariant-loop-component : goal.invariant-loop-component
invariant-loop-component l = (kind_at l.desc ≡ option_map (wrapped l.desc) (kind_at l.component)) × (length l.component < length l.desc)

abbrev pub decreases-loop-component : goal.decreases-loop-component
decreases-loop-component l = length l.component
