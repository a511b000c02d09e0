use Rattle.std.proofs.Common.{subst}
use Rattle.jvm_world.specs.View.{Allocates}
use Rattle.jvm_natives.proofs.Given.{made_gives}
use Rattle.jvm_natives.proofs.giving.give_made.Goals as goal

pub returns-in-Some-clause-row : goal.returns-in-Some-clause-row
returns-in-Some-clause-row c = λ p r w u make same h.
    made_gives p r w u c.args.args.count c.in-Some.object make c.put-turn.result
    c.args.frames.now c.put-turn.new.frames same
    (subst (λ o. Allocates p w u (make w.limits) o) c.in-Some.is h) (c.put-turn.ensures.row p r u)
