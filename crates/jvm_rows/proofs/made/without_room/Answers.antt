use Rattle.std.proofs.Common.{subst}
use Rattle.jvm_world.specs.View.{TellsMade}
use Rattle.jvm_rows.proofs.Making.{no_room_runs, over_runs}
use Rattle.jvm_rows.proofs.made.without_room.Goals as goal

pub returns-then-there-clause-row : goal.returns-then-there-clause-row
returns-then-there-clause-row c = λ make count fs t h.
    let p = c.args.p.now in
    let w = c.args.world.now in
    no_room_runs p w make count fs (subst (λ b. TellsMade p w (make w.limits) b) c.if-there.true t) h

pub returns-clause-row : goal.returns-clause-row
returns-clause-row c = λ make count fs t h.
    let p = c.args.p.now in
    let w = c.args.world.now in
    over_runs p w c.end.new.self make count fs (subst (λ b. TellsMade p w (make w.limits) b) c.if-there.false t) c.end.ensures.moves
