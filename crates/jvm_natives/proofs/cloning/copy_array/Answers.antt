use Rattle.jvm_natives.proofs.Copied.{copied}
use Rattle.jvm_natives.proofs.cloning.copy_array.Goals as goal

pub returns-in_ok-turn-in-Some-clause-row : goal.returns-in_ok-turn-in-Some-clause-row
returns-in_ok-turn-in-Some-clause-row c = λ r.
    copied c.args.p.now r c.args.world.now c.give_copy.new.world c.args.args.count c.args.array c.in_ok-copy.copy c.in-Some.copy c.in_ok-turn-in-Some.turn
    c.args.frames.now c.give_copy.new.frames
    c.requires.sole c.in_ok-copy.ensures.copy c.in-Some.is (c.in_ok-turn-in-Some.ensures.row r)
