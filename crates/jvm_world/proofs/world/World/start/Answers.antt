use Rattle.std.proofs.Common.{refl, []}
use Rattle.jvm_world.specs.View.{world_of}
use Rattle.jvm_world.proofs.world.World.start.Goals as goal

pub returns-clause-means : goal.returns-clause-means
unfolding world_of
returns-clause-means c =
    record {
      past = record { statics = []; literals = []; class_objects = []; monitors = [] };
      history = record {
        statics = λ class place k lt. rw c.new-4.ensures refl;
        literals = c.new-6.ensures;
        class_objects = c.new-7.ensures;
        monitors = λ x. rw c.new-8.ensures refl;
      };
      world = rw (
        c.new-2.ensures,
        c.new-3.ensures.boxes,
        c.new-5.ensures,
        c.new-9.ensures,
        c.new-10.ensures,
        c.in_ok-consult_name.ensures.names,
        c.in_ok-consulted.ensures.names,
        c.in_ok-expected.ensures,
        c.in_ok-calls.ensures,
      ) refl;
    }
