use Rattle.jvm_run.specs.Running.{start_of}
use Rattle.jvm_run.proofs.Ran.{stuck_result}
use Rattle.jvm_run.proofs.running.finish_again.Goals as goal

pub returns-clause-run : goal.returns-clause-run
returns-clause-run c =
    stuck_result c.args.p.now c.args.m.now.world.limits c.args.steps (start_of c.args.p.now c.args.test.now) c.run_again.new.m
    c.in_ok-ending.ending c.in_ok-result.result c.in_ok-run_again.ensures.stands c.in_ok-ending.ensures c.in_ok-result.ensures
