use Rattle.jvm_rows.proofs.Stored.{narrows_object, narrows_none}
use Rattle.jvm_rows.proofs.storing.narrow_in.Goals as goal

pub returns-in-Some : goal.returns-in-Some
returns-in-Some c = narrows_object c.args.p.now c.args.world.now c.args.object c.in-Some.found.now c.args.value c.narrow_for.result c.in-Some.ensures (c.narrow_for.ensures c.args.p.now)

pub returns-in-None : goal.returns-in-None
returns-in-None c = narrows_none c.args.p.now c.args.world.now c.args.object c.args.value c.args.value c.in-None.ensures
