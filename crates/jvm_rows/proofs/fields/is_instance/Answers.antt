use Rattle.std.proofs.Common.{Some, None, false}
use Rattle.jvm_rows.proofs.Fielding.{of_instance}
use Rattle.jvm_rows.proofs.fields.is_instance.Goals as goal

pub returns-in-Some : goal.returns-in-Some
returns-in-Some c = of_instance c.args.p.now c.args.world.now c.args.object (Some c.in-Some.found.now) c.has_fields.result c.in-Some.ensures (c.has_fields.ensures c.args.p.now)

pub returns-in-None : goal.returns-in-None
returns-in-None c = of_instance c.args.p.now c.args.world.now c.args.object None false c.in-None.ensures (tt {0})
