use Rattle.std.proofs.Common.{subst}
use Rattle.jvm_world.specs.View.{Allocates}
use Rattle.jvm_rows.proofs.Making.{made_runs, full_runs}
use Rattle.jvm_rows.proofs.made.push_made.Goals as goal

pub returns-in-Some : goal.returns-in-Some
returns-in-Some c = λ p w u make a.
    made_runs p w u make c.args.count c.in-Some.object c.args.frames.now c.put.new.self
    (subst (Allocates p w u (make w.limits)) c.in-Some.is a) c.put.ensures

pub returns-in-None : goal.returns-in-None
returns-in-None c = λ p w u make a.
    full_runs p w u make c.args.count c.args.frames.now (subst (Allocates p w u (make w.limits)) c.in-None.is a)
