use Rattle.jvm_world.specs.View.{kind_in}
use Rattle.jvm_receivers.proofs.interfaces.is_of.Goals as goal

pub returns-then-is_known : goal.returns-then-is_known
returns-then-is_known c = c.is_known.ensures c.if-is_known.true (kind_in c.args.p.now c.args.kind.now) c.requires.receiver
