use Rattle.std.proofs.Common.{Bool, subst}
use Rattle.suite_runs.specs.Keeping.{PushesKept}
use Rattle.suite_runs.proofs.finished.put_needed.Goals as goal

pub returns-then-fit : goal.returns-then-fit
returns-then-fit c = λ h all. subst (λ (b : Bool). PushesKept h c.args.runs.now c.args.all.now.items c.push_needed.new.all.items b) c.if-fit.true (c.in_ok-fit.ensures h all)

pub returns-else-fit : goal.returns-else-fit
returns-else-fit c = λ h all. subst (λ (b : Bool). PushesKept h c.args.runs.now c.args.all.now.items c.push_needed.new.all.items b) c.if-fit.false (c.in_ok-fit.ensures h all)
