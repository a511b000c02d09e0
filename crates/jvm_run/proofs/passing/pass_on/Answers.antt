use Rattle.std.proofs.Common.{◌≤◌, ◌+◌, ◌-◌, arith, subst}
use Rattle.jvm_run.specs.declared.taking.Taken.TheVariants as taken
use Rattle.jvm_step.specs.Below.{lines_of}
use Rattle.jvm_run.specs.Passing.{Took}
use Rattle.jvm_run.proofs.Passes.{took_both, took_none}
use Rattle.jvm_run.proofs.Stays.{marked_on}
use Rattle.jvm_run.proofs.passing.pass_on.Goals as goal

pub loop-done-init : goal.loop-done-init
loop-done-init c = record {
  within = omega arith;
  took = took_none c.args.p.now c.args.limit c.args.m.now c.requires.machine c.requires.meaning;
  marked = c.requires.marked;
  tables = c.requires.tables;
}

pub loop-done-preserved : goal.loop-done-preserved
loop-done-preserved c =
    let p = c.args.p.now in
    let l = c.loop-done in
    let n = c.in-Steps.n in
    let took = subst (Took p (c.args.limit - l.done) l.m c.pass.new.m) c.in-Steps.is c.in_ok-taken.ensures.took in
    let lt : l.done + (c.args.limit - l.done) ≤ c.args.limit = omega (arith, l.invariant.within) in
    record {
      within = omega (arith, took.within, l.invariant.within);
      took = took_both p c.args.limit c.args.limit (c.args.limit - l.done) l.done c.args.m.now l.m c.pass.new.m (taken.Steps n) l.invariant.took took lt;
      marked = marked_on p c.pass.new.marks.items (lines_of p l.m.world) (lines_of p c.pass.new.m.world) took.ready.1 c.in_ok-taken.ensures.marked;
      tables = c.pass.ensures.tables;
    }

pub returns-in-Stuck-clause-took : goal.returns-in-Stuck-clause-took
returns-in-Stuck-clause-took c =
    let p = c.args.p.now in
    let l = c.loop-done in
    let took = subst (Took p (c.args.limit - l.done) l.m c.pass.new.m) c.in-Stuck.is c.in_ok-taken.ensures.took in
    let lt : l.done + (c.args.limit - l.done) ≤ c.args.limit = omega (arith, l.invariant.within) in
    took_both p c.args.limit c.args.limit (c.args.limit - l.done) l.done c.args.m.now l.m c.pass.new.m (taken.Stuck c.in-Stuck.n) l.invariant.took took lt
