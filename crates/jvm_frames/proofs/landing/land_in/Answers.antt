use Rattle.jvm_frames.proofs.Lands.{lands, lands_always}
use Rattle.jvm_frames.proofs.landing.land_in.Goals as goal

pub unreachable-requires : goal.unreachable-requires
unreachable-requires c = lands_always c.args.object c.args.slots.now c.push_in.new.slots c.args.f.now c.push_in.new.f c.requires.frame c.requires.room c.if-not-push_in.ensures.pushes

pub returns-clause-lands : goal.returns-clause-lands
returns-clause-lands c = lands c.args.object c.args.to c.args.slots.now c.push_in.new.slots c.args.f.now c.push_in.new.f c.requires.room c.if-not-push_in.ensures.pushes
