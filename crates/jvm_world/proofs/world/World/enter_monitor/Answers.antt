use Rattle.std.proofs.Common.{◌+◌, ap, ◌∷◌}
use Rattle.machine_rules.specs.TypeRows.{monitor_count, opens}
use Rattle.jvm_world.specs.View.{world_of}
use Rattle.jvm_world.proofs.Worlds.{monitors_set}
use Rattle.jvm_world.proofs.world.World.enter_monitor.Goals as goal

pub returns-clause-moves : goal.returns-clause-moves
unfolding world_of
returns-clause-moves c = λ v m.
    let x = c.args.object in
    let n = monitor_count x m.past.monitors + 1 in
    record {
      past = record m.past { monitors = (x, n) ∷ m.past.monitors };
      history = record {
        statics = m.history.statics;
        literals = m.history.literals;
        class_objects = m.history.class_objects;
        monitors = monitors_set x n _ c.args.self.now.monitors c.open.new.self m.past.monitors
            (ap (λ k. k + 1) (m.history.monitors x)) c.in_ok-open.ensures.opened m.history.monitors;
      };
      world = ap (λ u. opens x (monitor_count x u.monitors + 1) u) m.world;
    }
