use Rattle.std.proofs.Common.{◌∙◌, sym}
use Rattle.jvm_invokes.proofs.Bodies.{native_is}
use Rattle.jvm_invokes.proofs.heads.body_of.Goals as goal

pub returns-in-Native : goal.returns-in-Native
returns-in-Native c = native_is c.args.method.now c.in-Native.native (sym c.is_abstract.ensures ∙ c.if-is_abstract.false) c.in-Native.is
