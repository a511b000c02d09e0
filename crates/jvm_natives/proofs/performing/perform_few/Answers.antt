use Rattle.lib_core.specs.View.{deed_of}
use Rattle.jvm_natives.proofs.Stores.{kept_by, refused}
use Rattle.jvm_natives.proofs.performing.perform_few.Goals as goal

pub returns-in-Ok-clause-kept : goal.returns-in-Ok-clause-kept
returns-in-Ok-clause-kept c =
    kept_by c.args.p.now c.args.world.now c.args.deed c.perform-done.new.heap c.perform-done.new.kept c.requires.world c.requires.few c.in-Ok.ensures.few

pub returns-in-Full-clause-performs : goal.returns-in-Full-clause-performs
returns-in-Full-clause-performs c =
    refused c.args.p.now c.args.world.now c.args.known.now (deed_of c.args.deed) c.perform-done.new.heap c.perform-done.new.kept
    c.requires.world c.requires.known (c.in-Err.ensures.full c.in-Full.is)
