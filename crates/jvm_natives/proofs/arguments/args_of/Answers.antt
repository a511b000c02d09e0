use Rattle.jvm_natives.proofs.Counted.{fewer}
use Rattle.jvm_natives.proofs.arguments.args_of.Goals as goal

pub returns-in_default-clause-none : goal.returns-in_default-clause-none
returns-in_default-clause-none c =
    fewer c.args.frames.now c.args.count c.loop-left.args.count c.loop-left.left c.loop-left.invariant.count
    c.loop-left-test.true c.in_default.ensures.none
