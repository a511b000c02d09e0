use Rattle.class_link.specs.View.{method_ref_of}
use Rattle.jvm_natives.proofs.Left.{readied_nowhere}
use Rattle.jvm_natives.proofs.completing.complete_static.Goals as goal

pub returns-then-not-is_site-clause-row : goal.returns-then-not-is_site-clause-row
returns-then-not-is_site-clause-row c =
    readied_nowhere c.args.p.now (method_ref_of c.args.reference.now) c.args.site c.args.frames.now c.args.world.now
    (c.is_site.ensures.nowhere c.if-not-is_site.true)
