use Rattle.std.proofs.Common.{◌∙◌, sym, ap}
use Rattle.machine_rules.specs.Initialisation.{init_in}
use Rattle.class_table.specs.Table.{name_at}
use Rattle.jvm_world.specs.View.{world_of}
use Rattle.jvm_world.proofs.Named.{init_named}
use Rattle.jvm_world.proofs.world.World.state.Goals as goal

pub returns : goal.returns
unfolding world_of
returns c = λ v m.
    let p = c.args.p.now in
    let r = c.requires.world in
    ap (λ u. init_in (name_at p c.args.class.0) u.inits) m.world
    ∙ init_named p c.args.class.0 c.args.self.now.begun r.program c.requires.class r.begun
    ∙ sym c.state.ensures
