use Rattle.std.proofs.Common.{◌∙◌}
use Rattle.jvm_link.proofs.Resolving.{kind_class}
use Rattle.jvm_link.proofs.resolve.is_interface_family.Goals as goal

pub returns : goal.returns
returns c = c.is_interface.ensures ∙ kind_class c.args.program.now c.args.id.0 c.args.array c.if-array.false
