use Rattle.std.proofs.Common.{subst}
use Rattle.jvm_unwind.specs.Unwinding.{IsAwaited, Tests}
use Rattle.jvm_unwind.proofs.Left.{other_leaves, expected_leaves}
use Rattle.jvm_unwind.proofs.leaving.leave_script.Goals as goal

pub returns-then-not-caught-clause-leaves : goal.returns-then-not-caught-clause-leaves
returns-then-not-caught-clause-leaves c =
    let p = c.args.p.now in
    let w = c.args.world.now in
    let u = c.is_caught.new.world in
    let t = c.args.thrown.now in
    let k = c.in-Some.catch in
    other_leaves p w u c.args.object t k (subst (IsAwaited p w) c.in-Some.is c.in_ok-expected.ensures)
    (subst (λ b. Tests p t k w b u) c.if-not-caught.true c.in_ok-caught-in-Some.ensures.tests)

pub returns-else-not-caught-clause-leaves : goal.returns-else-not-caught-clause-leaves
returns-else-not-caught-clause-leaves c =
    let p = c.args.p.now in
    let w = c.args.world.now in
    let u = c.is_caught.new.world in
    let t = c.args.thrown.now in
    let k = c.in-Some.catch in
    expected_leaves p w u c.args.object t k (subst (IsAwaited p w) c.in-Some.is c.in_ok-expected.ensures) c.finish_call.new.self
    (subst (λ b. Tests p t k w b u) c.if-not-caught.false c.in_ok-caught-in-Some.ensures.tests) c.finish_call.ensures.moves
