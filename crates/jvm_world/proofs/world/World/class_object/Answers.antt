use Rattle.std.proofs.Common.{◌∙◌, sym, ap, subst, []}
use Rattle.machine_rules.specs.Effects.{allocate}
use Rattle.program_rules.specs.Objects.{Object, Plain}
use Rattle.program_rules.specs.Names.{Name}
use Rattle.class_table.specs.Table.{name_at}
use Rattle.jvm_world.specs.View.{Allocates, object_of}
use Rattle.jvm_world.proofs.Worlds.{class_made, class_named}
use Rattle.jvm_world.proofs.world.World.class_object.Goals as goal

abbrev object_named : Name → Name → Object
object_named t n = record { kind = Plain n; values = []; text = t; items = [] }

pub returns-clause-made : goal.returns-clause-made
returns-clause-made c =
    let p = c.args.p.now in
    let w = c.args.self.now in
    let t = c.args.name.now in
    class_made p w c.allocate.new.self c.add.new.self t (object_of p c.in_ok-made.made)
    c.in-Some-2.object (sym c.get.ensures ∙ c.in-None.is)
    (ap (object_of p) c.in_ok-made.ensures
    ∙ ap (object_named t) (ap (name_at p) c.class.ensures ∙ class_named p w.classes c.requires.world.classes))
    (subst
    (λ o. Allocates p w c.allocate.new.self
    (λ v. allocate w.limits v (object_of p c.in_ok-made.made) 3) o)
    c.in-Some-2.is c.in_ok-object.ensures.made)
    c.in_ok-add.ensures
