use Rattle.jvm_world.proofs.Worlds.{exits_by}
use Rattle.jvm_world.proofs.world.World.exit_monitor.Goals as goal

pub returns-clause-exits : goal.returns-clause-exits
returns-clause-exits c =
    exits_by c.args.p.now c.args.self.now c.close.new.self c.args.object c.close.result
    c.close.ensures.closed c.close.ensures.there c.close.ensures.none c.close.ensures.same
