use Rattle.std.proofs.Common.{subst, sym}
use Rattle.jvm_run.specs.Running.{HasSteps, IsStuckResult, start_of}
use Rattle.jvm_run.proofs.running.finish_stuck.Goals as goal

pub finish_again-requires-clause-long : goal.finish_again-requires-clause-long
finish_again-requires-clause-long c =
    let p = c.args.p.now in
    subst (λ q. HasSteps p q c.args.steps (start_of p c.args.test.now)) (sym c.in_ok-start.ensures.limits) c.requires.long

pub returns-clause-run : goal.returns-clause-run
returns-clause-run c =
    let p = c.args.p.now in
    subst (λ q. IsStuckResult p q c.args.steps (start_of p c.args.test.now) c.in_ok-result.result) c.in_ok-start.ensures.limits c.in_ok-result.ensures.run
