use Rattle.std.proofs.Common.{sym, ap, None}
use Rattle.jvm_world.specs.View.{length_in}
use Rattle.jvm_world.proofs.Lengths.{short_in, object_is, tells_some, tells_none}
use Rattle.jvm_world.proofs.world.World.array_length.Goals as goal

pub length_in-requires : goal.length_in-requires
length_in-requires c = short_in c.args.self.now.heap c.args.object c.in-Some.found.now c.requires.lengths (sym c.in-Some.ensures)

pub returns-in-Some-clause-some : goal.returns-in-Some-clause-some
returns-in-Some-clause-some c = tells_some c.args.p.now c.args.self.now c.args.object c.in-Some.found.now c.length_in.result c.in-Some.ensures c.length_in.ensures.some

pub returns-in-Some-clause-none : goal.returns-in-Some-clause-none
returns-in-Some-clause-none c = tells_none c.args.p.now c.args.self.now c.args.object c.in-Some.found.now c.length_in.result c.in-Some.ensures c.length_in.ensures.none

pub returns-in-None-clause-none : goal.returns-in-None-clause-none
returns-in-None-clause-none c = λ v m. ap length_in (object_is c.args.p.now c.args.self.now c.args.object None c.in-None.ensures v m)
