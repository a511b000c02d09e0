use Rattle.std.proofs.Common.{◌≡◌, ◌++◌, ◌∷◌, [], arith}
use Rattle.std.proofs.lemmas.Grind.{common_steps}
use Rattle.class_table.specs.declared.tasks.Task.TheVariants.{Visit}
use Rattle.class_table.proofs.Visits.{visits_start, visits_next, visits_end}
use Rattle.class_table.proofs.tasks.push_visits.Goals as goal

pub loop-left-init : goal.loop-left-init
loop-left-init c = (visits_start c.args.tasks.now.items c.args.classes.now, omega arith)

pub loop-left-preserved : goal.loop-left-preserved
loop-left-preserved c =
    let le = c.loop-left.invariant.1 in
    let push : c.push.new.self.items ≡ c.loop-left.tasks.items ++ Visit c.class_at-class.result ∷ [] = grind (arith, common_steps) in
    (visits_next c.args.tasks.now.items c.loop-left.tasks.items c.push.new.self.items c.args.classes.now c.loop-left.left c.class_at-class.result c.loop-left-test.true c.class_at-class.ensures c.loop-left.invariant.0 push, omega (arith, le))

pub returns : goal.returns
returns c = visits_end c.args.tasks.now.items c.loop-left.tasks.items c.args.classes.now c.loop-left.left c.loop-left-test.false c.loop-left.invariant.0
