use Rattle.jvm_run.proofs.Passes.{runs_in}
use Rattle.jvm_run.proofs.passing.take_in_method.Goals as goal

pub take_steps-requires-clause-runs : goal.take_steps-requires-clause-runs
take_steps-requires-clause-runs c =
    let at = c.in-Some.place in
    runs_in c.args.p.now c.args.m.now at.class.0 at.method at.at c.args.class.0 c.args.number c.args.method.now c.args.marks.now
    c.in-Some.ensures.some (c.is_of.ensures.class c.if-not-is_of.false) (c.is_of.ensures.number c.if-not-is_of.false)
    c.requires.code c.requires.reached
