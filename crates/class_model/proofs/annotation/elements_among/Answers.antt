use Rattle.std.proofs.Common.{None, ◌∙◌, arith}
use Rattle.class_model.specs.OwnElements.{own_elements}
use Rattle.class_model.proofs.ElementLaws.{value_step, later_step, name_step, other_ends, all_told}
use Rattle.class_model.proofs.annotation.elements_among.Goals as goal
use Rattle.class_model.proofs.annotation.elements_among.Goals.{in-Some+in_ok-push, in_default+then-due-gt0, in_default+else-due-gt0+in-Name}

pub returns-in_default-token : goal.returns-in_default-token
returns-in_default-token c = other_ends c.loop-token.own c.loop-token.name c.loop-token.due c.loop-token.token-index c.args.tokens.now _ (own_elements None 0 c.args.tokens.now) c.loop-token-test.true c.in_default.is c.if-due-gt0.false c.in_default-token.not-Name c.loop-token.invariant.0

pub loop-token-preserved : goal.loop-token-preserved
loop-token-preserved c =
    let total = own_elements None 0 c.args.tokens.now in
    elim c.match-name.branch [
      | in-Some+in_ok-push w ↦ (rw (w.name-is) (value_step c.loop-token.own c.match-name.own c.loop-token.name w.in-Some.index c.loop-token.due c.match-name.due c.loop-token.token-index c.args.tokens.now _ total c.loop-token-test.true w.in-Some.is (w.own-is ∙ w.in_ok-push.ensures.ok) (w.due-is ∙ w.opened_by-due.ensures.value) c.loop-token.invariant.0), omega (arith, w.due-is, w.opened_by-due.ensures.small))
      | in_default+then-due-gt0 w ↦ (later_step c.loop-token.own c.match-name.own c.loop-token.name c.match-name.name c.loop-token.due c.match-name.due w.opened_by.result c.loop-token.token-index c.args.tokens.now _ total c.loop-token-test.true w.in_default.is w.if-due-gt0.true w.own-is w.name-is w.opened_by.ensures.value w.due-is c.loop-token.invariant.0, omega (arith, w.due-is, w.opened_by.ensures.small, c.loop-token.invariant.1))
      | in_default+else-due-gt0+in-Name w ↦ (name_step c.loop-token.own c.match-name.own c.loop-token.name c.match-name.name w.in-Name.index c.loop-token.due c.match-name.due c.loop-token.token-index c.args.tokens.now _ total c.loop-token-test.true w.in_default.is w.if-due-gt0.false w.in-Name.is w.own-is w.name-is w.due-is c.loop-token.invariant.0, omega (arith, w.due-is, c.loop-token.invariant.1))
    ]

pub returns : goal.returns
returns c = all_told c.loop-token.own c.loop-token.name c.loop-token.due c.loop-token.token-index c.args.tokens.now (own_elements None 0 c.args.tokens.now) c.loop-token-test.false c.loop-token.invariant.0
