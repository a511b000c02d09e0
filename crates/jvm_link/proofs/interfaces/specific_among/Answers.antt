use Rattle.std.proofs.Common.{refl}
use Rattle.jvm_link.proofs.Choosing.{next_specific, all_specific}
use Rattle.jvm_link.proofs.interfaces.specific_among.Goals as goal

pub specific_site-site-requires : goal.specific_site-site-requires
specific_site-site-requires c = c.requires c.loop-at.at c.class_at-number.result c.class_at-number.ensures

pub loop-at-preserved : goal.loop-at-preserved
loop-at-preserved c = next_specific c.args.program.now c.args.name.now c.args.desc.now c.args.above.now c.args.found.now c.loop-at.at _ c.class_at-number.result c.loop-at.specific _ c.specific_site-site.result refl c.class_at-number.ensures c.loop-at.invariant c.specific_site-site.ensures c.with_site-specific.ensures

pub returns : goal.returns
returns c = all_specific c.args.program.now c.args.name.now c.args.desc.now c.args.above.now c.args.found.now c.loop-at.at c.loop-at.specific c.loop-at-test.false c.loop-at.invariant
