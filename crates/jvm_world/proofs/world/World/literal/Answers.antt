use Rattle.std.proofs.Common.{◌∙◌, sym, subst, ◌+◌, length}
use Rattle.machine_rules.specs.Effects.{allocate}
use Rattle.machine_rules.specs.NewObjects.{text_object}
use Rattle.jvm_world.specs.View.{Allocates}
use Rattle.jvm_world.proofs.Worlds.{literal_made}
use Rattle.jvm_world.proofs.world.World.literal.Goals as goal

pub returns-clause-made : goal.returns-clause-made
returns-clause-made c =
    let p = c.args.p.now in
    let w = c.args.self.now in
    let t = c.args.text.now in
    literal_made p w c.new_text.new.self c.add.new.self t c.in-Some-2.object
    (sym c.get.ensures ∙ c.in-None.is)
    (subst
    (λ o. Allocates p w c.new_text.new.self
    (λ v. allocate w.limits v (text_object t) (2 + length t)) o)
    c.in-Some-2.is c.in_ok-object.ensures.made)
    c.in_ok-add.ensures
