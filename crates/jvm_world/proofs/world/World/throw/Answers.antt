use Rattle.std.proofs.Common.{◌∙◌, ap, [], ◌∷◌}
use Rattle.program_rules.specs.declared.value.Value.TheVariants.{Null}
use Rattle.program_rules.specs.Objects.{Object, Plain}
use Rattle.program_rules.specs.Names.{Name}
use Rattle.class_table.specs.Table.{name_at}
use Rattle.jvm_world.specs.View.{object_of}
use Rattle.jvm_world.proofs.Worlds.{thrown_comes, fault_named}
use Rattle.jvm_world.proofs.world.World.throw.Goals as goal

abbrev object_named : Name → Object
object_named n = record { kind = Plain n; values = Null ∷ Null ∷ []; text = []; items = [] }

pub returns-clause-throws : goal.returns-clause-throws
returns-clause-throws c =
    let p = c.args.p.now in
    thrown_comes p c.args.self.now c.allocate.new.self c.args.fault
    (object_of p c.in_ok-object.object) c.in_ok-thrown.thrown
    (ap (object_of p) c.in_ok-object.ensures
    ∙ ap object_named
    (ap (name_at p) c.fault.ensures
    ∙ fault_named p c.args.self.now.classes c.args.fault c.requires.world.classes))
    c.in_ok-thrown.ensures.made
