use Rattle.jvm_unwind.proofs.Worlds.{caught}
use Rattle.jvm_unwind.proofs.searching.is_caught.Goals as goal

pub returns-clause-tests : goal.returns-clause-tests
returns-clause-tests c = caught c.args.p.now c.args.thrown.now c.id-class.result c.args.catch.now c.args.world.now c.catches.new.seen c.in_ok-caught.caught c.id-class.ensures.above c.in_ok-caught.ensures.tests
