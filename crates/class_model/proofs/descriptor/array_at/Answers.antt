use Rattle.class_model.proofs.DescriptorLaws.{starts}
use Rattle.class_model.proofs.descriptor.array_at.Goals as goal

pub loop-component-init : goal.loop-component-init
loop-component-init c = starts c.args.desc.now c.args.component.now c.requires
