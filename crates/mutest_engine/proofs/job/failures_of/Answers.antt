use Rattle.std.proofs.Common.{◌≡◌, ◌++◌, List, map, subst}
use Rattle.std.specs.Vec.Iter.{into_iter_items}
use Rattle.suite_runs.specs.Below.{FailedTest}
use Rattle.mutest_engine.specs.Jobs.{failure_of}
use Rattle.mutest_engine.proofs.JobLaws.{mapped_on}
use Rattle.mutest_engine.proofs.job.failures_of.Goals as goal

pub loop-failure-preserved : goal.loop-failure-preserved
loop-failure-preserved c =
    let see = failure_of c.args.tests.now in
    let total = map see c.args.failed in
    let so_far = subst (λ (fs : List FailedTest). c.loop-failure.all ++ map see fs ≡ total) c.in-Some.ensures.steps.0 c.loop-failure.invariant in
    let text = c.in_ok-text.ensures in
    mapped_on see c.loop-failure.all c.push.new.self c.in-Some.failure (c.in_ok-text.text, c.in-Some.failure.outcome) (into_iter_items c.next.new.self) total c.in_ok-push.ensures.ok (λ i. (text i, c.in-Some.failure.outcome)) so_far
