use Rattle.std.proofs.Common.{◌<◌, subst, arith}
use Rattle.std.specs.Prelude.{◌^◌}
use Rattle.jvm_step.specs.Machines.{Answers}
use Rattle.jvm_run.specs.Running.{start_of}
use Rattle.jvm_run.proofs.Ran.{begins, few, goes_on, meaning}
use Rattle.jvm_run.proofs.running.run_again.Goals as goal

pub step-requires-clause-few : goal.step-requires-clause-few
step-requires-clause-few c =
    let p = c.args.p.now in
    let lt : c.loop-i.i < c.args.steps = omega arith in
    let small : c.args.steps < 2 ^ 64 = omega arith in
    few p c.args.m.now.world.limits c.args.steps c.loop-i.i (start_of p c.args.test.now) c.loop-i.m lt small c.loop-i.invariant.run

pub step-requires-clause-meaning : goal.step-requires-clause-meaning
step-requires-clause-meaning c =
    meaning c.args.p.now c.args.m.now.world.limits c.args.steps c.loop-i.i (start_of c.args.p.now c.args.test.now) c.loop-i.m c.loop-i.invariant.run

pub loop-i-init : goal.loop-i-init
loop-i-init c = record {
  run = begins c.args.p.now c.args.steps c.args.test.now c.args.m.now c.requires.machine c.requires.stands;
  tables = c.requires.tables;
}

pub loop-i-preserved : goal.loop-i-preserved
loop-i-preserved c =
    let p = c.args.p.now in
    let lt : c.loop-i.i < c.args.steps = omega arith in
    record {
      run = goes_on p c.args.m.now.world.limits c.args.steps c.loop-i.i (start_of p c.args.test.now) c.loop-i.m c.step.new.m lt c.loop-i.invariant.run
          (subst (λ r. Answers p r c.loop-i.m c.step.new.m) c.in-Next.is c.in_ok-step.ensures.step) c.in_ok-step.ensures.still;
      tables = c.step.ensures.tables;
    }
