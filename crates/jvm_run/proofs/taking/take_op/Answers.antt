use Rattle.jvm_run.proofs.Passes.{has_mark, if_there}
use Rattle.std.proofs.Common.{IsSomeAnd}
use Rattle.jvm_run.specs.Passing.{HasMark}
use Rattle.jvm_run.proofs.taking.take_op.Goals as goal

pub returns-clause-mark : goal.returns-clause-mark
returns-clause-mark c =
    let at = c.in-Some.place in
    if_there c.in_ok-turn.turn (IsSomeAnd c.args.frames.now.frame (HasMark c.args.marks.now))
    (has_mark c.args.frames.now c.args.marks.now at.class.0 at.method at.at c.is_marked.result c.in-Some.ensures.some c.is_marked.ensures c.if-not-is_marked.false)
