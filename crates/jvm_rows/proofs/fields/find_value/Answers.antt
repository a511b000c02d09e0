use Rattle.std.proofs.Common.{Some, None}
use Rattle.jvm_rows.proofs.Fielding.{of_value}
use Rattle.jvm_rows.proofs.fields.find_value.Goals as goal

pub returns-in-Some : goal.returns-in-Some
returns-in-Some c = of_value c.args.p.now c.args.world.now c.args.object c.args.slot (Some c.in-Some.found.now) c.value_in.result c.in-Some.ensures (c.value_in.ensures c.args.p.now)

pub returns-in-None : goal.returns-in-None
returns-in-None c = of_value c.args.p.now c.args.world.now c.args.object c.args.slot None None c.in-None.ensures (tt {0})
