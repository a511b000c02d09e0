use Rattle.std.proofs.Common.{◌≤◌, ◌+◌, ◌-◌, arith, subst}
use Rattle.jvm_run.specs.declared.taking.Taken.TheVariants as taken
use Rattle.jvm_run.specs.Passing.{Took}
use Rattle.jvm_run.proofs.Passes.{reached_more, took_both, took_more, took_none}
use Rattle.jvm_run.proofs.passing.stay_in_method.Goals as goal

pub loop-done-init : goal.loop-done-init
loop-done-init c = record {
  within = omega arith;
  took = took_none c.args.p.now c.args.limit c.args.m.now c.requires.machine c.requires.meaning;
  lookups = c.requires.lookups;
  slots = c.requires.slots;
  layouts = c.requires.layouts;
}

pub loop-done-preserved : goal.loop-done-preserved
loop-done-preserved c =
    let p = c.args.p.now in
    let l = c.loop-done in
    let n = c.in-Steps.n in
    let took = subst (Took p (c.args.limit - l.done) l.m c.take_in_method.new.m) c.in-Steps.is c.in_ok-taken.ensures.took in
    let lt : l.done + (c.args.limit - l.done) ≤ c.args.limit = omega (arith, l.invariant.within) in
    record {
      within = omega (arith, took.within, l.invariant.within);
      took = took_both p c.args.limit c.args.limit (c.args.limit - l.done) l.done c.args.m.now l.m c.take_in_method.new.m (taken.Steps n) l.invariant.took took lt;
      lookups = c.take_in_method.ensures.lookups;
      slots = c.take_in_method.ensures.slots;
      layouts = c.take_in_method.ensures.layouts;
    }

pub returns-in-Stuck-clause-took : goal.returns-in-Stuck-clause-took
returns-in-Stuck-clause-took c =
    let p = c.args.p.now in
    let l = c.loop-done in
    let took = subst (Took p (c.args.limit - l.done) l.m c.take_in_method.new.m) c.in-Stuck.is c.in_ok-taken.ensures.took in
    let lt : l.done + (c.args.limit - l.done) ≤ c.args.limit = omega (arith, l.invariant.within) in
    took_both p c.args.limit c.args.limit (c.args.limit - l.done) l.done c.args.m.now l.m c.take_in_method.new.m (taken.Stuck c.in-Stuck.n) l.invariant.took took lt

pub take_in_method-requires-clause-machine : goal.take_in_method-requires-clause-machine
take_in_method-requires-clause-machine c = c.loop-done.invariant.took.machine

pub take_in_method-requires-clause-meaning : goal.take_in_method-requires-clause-meaning
take_in_method-requires-clause-meaning c = c.loop-done.invariant.took.ready.0

pub take_in_method-requires-clause-reached : goal.take_in_method-requires-clause-reached
take_in_method-requires-clause-reached c =
    reached_more c.args.p.now c.args.limit c.loop-done.done c.args.class.0 c.args.number c.args.marks.now c.args.m.now c.loop-done.m
    c.loop-done.invariant.took c.requires.reached

pub returns-then-n-eq0-clause-took : goal.returns-then-n-eq0-clause-took
returns-then-n-eq0-clause-took c =
    let l = c.loop-done in
    took_more c.args.p.now c.args.limit l.done c.in-Steps.n c.args.m.now l.m c.take_in_method.new.m c.in_ok-taken.taken
    l.invariant.within c.in-Steps.is l.invariant.took c.in_ok-taken.ensures.took
