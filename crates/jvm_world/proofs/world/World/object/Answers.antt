use Rattle.std.proofs.Common.{◌∙◌, sym, ap}
use Rattle.std.specs.Option.{option_map}
use Rattle.program_rules.specs.Objects.{object_at}
use Rattle.jvm_world.specs.View.{world_of, object_of}
use Rattle.jvm_world.proofs.Slots.{objects_at}
use Rattle.jvm_world.proofs.world.World.object.Goals as goal

pub returns : goal.returns
unfolding world_of
returns c = λ v m.
    let p = c.args.p.now in
    ap (λ u. object_at u.heap c.args.object) m.world
    ∙ objects_at p c.args.self.now.heap c.args.object
    ∙ ap (option_map (object_of p)) (sym c.get.ensures)
