use Rattle.std.proofs.Common.{sym, refl, subst}
use Rattle.jvm_link.specs.Candidates.{AreGiving}
use Rattle.jvm_link.proofs.Choosing.{nothing_given, next_given, all_given}
use Rattle.jvm_link.proofs.interfaces.find_giving.Goals as goal

pub loop-at-init : goal.loop-at-init
loop-at-init c = subst (AreGiving c.args.program.now c.args.name.now c.args.desc.now _) (sym c.requires.empty) (nothing_given c.args.program.now c.args.name.now c.args.desc.now)

pub add_giving-requires : goal.add_giving-requires
add_giving-requires c = c.requires.within c.loop-at.at c.class_at-number.result c.class_at-number.ensures

pub loop-at-preserved : goal.loop-at-preserved
loop-at-preserved c = next_given c.args.program.now c.args.name.now c.args.desc.now c.args.classes.now c.loop-at.found.items c.add_giving.new.into.items c.loop-at.at _ c.class_at-number.result refl c.requires.within c.class_at-number.ensures c.loop-at.invariant c.in_ok-add_giving.ensures

pub returns : goal.returns
returns c = all_given c.args.program.now c.args.name.now c.args.desc.now c.args.classes.now c.loop-at.found.items c.loop-at.at c.loop-at-test.false c.loop-at.invariant
