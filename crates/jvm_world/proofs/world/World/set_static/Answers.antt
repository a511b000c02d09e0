use Rattle.std.proofs.Common.{ap, ◌∷◌}
use Rattle.machine_rules.specs.Initialisation.{sets_static}
use Rattle.class_table.specs.Table.{name_at}
use Rattle.jvm_world.specs.View.{world_of}
use Rattle.jvm_world.proofs.Worlds.{statics_set}
use Rattle.jvm_world.proofs.world.World.set_static.Goals as goal

pub returns-clause-moves : goal.returns-clause-moves
unfolding world_of
returns-clause-moves c = λ v m.
    let p = c.args.p.now in
    let n = name_at p c.args.class.0 in
    record {
      past = record m.past {
        statics = record { class = n; place = c.args.place; value = c.args.value } ∷ m.past.statics;
      };
      history = record {
        statics = statics_set p c.args.self.now.statics c.set.new.self c.args.class.0 c.args.place
            c.args.value m.past.statics c.requires.world.program c.requires.class
            c.in_ok-set.ensures.set m.history.statics;
        literals = m.history.literals;
        class_objects = m.history.class_objects;
        monitors = m.history.monitors;
      };
      world = ap (sets_static n c.args.place c.args.value) m.world;
    }
