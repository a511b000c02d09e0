use Rattle.std.proofs.Common.{rules, ◌≡◌, ◌∙◌, sym, ap}
use Rattle.std.specs.Prelude.{◌&&◌, is_some}
use Rattle.jvm_unwind.proofs.Worlds.{awaited_is}
use Rattle.jvm_unwind.proofs.leaving.is_awaited.Goals as goal

pub returns-then-tests : goal.returns-then-tests
returns-then-tests c v m =
    let w = c.args.world.now in
    let some : is_some w.expected ≡ c.is_some.result = search rules in
    awaited_is c.args.p.now w v m ∙ ap (λ b. b && is_some w.expected) (sym c.tests.ensures ∙ c.if-tests.true) ∙ some

pub returns-else-tests : goal.returns-else-tests
returns-else-tests c v m =
    let w = c.args.world.now in
    awaited_is c.args.p.now w v m ∙ ap (λ b. b && is_some w.expected) (sym c.tests.ensures ∙ c.if-tests.false) ∙ sym c.if-tests.false
