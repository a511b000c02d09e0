use Rattle.std.proofs.Common.{List, subst, sym}
use Rattle.std.proofs.lemmas.List.{take_all}
use Rattle.suite_workers.specs.declared.said.KnownRun.{KnownRun}
use Rattle.suite_runs.specs.Keeping.{AddsKept, IsOf}
use Rattle.suite_runs.proofs.KeptAs.{adds_more, has_unfit}
use Rattle.suite_runs.proofs.records.push_needed.Goals as goal

pub returns-in-None : goal.returns-in-None
returns-in-None c = λ h all.
    has_unfit c.args.runs.now c.loop-run.run-index c.run-item.result c.loop-run-test.true c.run-item.is
    (c.in-None.ensures h (subst (IsOf h) (sym c.run-item.is) (all c.loop-run.run-index c.run-item.result c.loop-run-test.true)))

pub loop-run-preserved : goal.loop-run-preserved
loop-run-preserved c = λ h all.
    adds_more h c.args.runs.now c.loop-run.run-index c.run-item.result c.in-Some.needed c.args.all.now.items c.loop-run.all.items c.push.new.self.items c.loop-run-test.true c.run-item.is (c.loop-run.invariant h all)
    (c.in-Some.ensures h (subst (IsOf h) (sym c.run-item.is) (all c.loop-run.run-index c.run-item.result c.loop-run-test.true))) c.in_ok-push-in-Some.ensures.items

pub returns : goal.returns
returns c = λ h all.
    subst (λ (ks : List KnownRun). AddsKept h ks c.args.all.now.items c.loop-run.all.items) (take_all c.loop-run.run-index c.args.runs.now c.loop-run-test.false) (c.loop-run.invariant h all)
