use Rattle.type_verifier.proofs.MethodLaws.{head_first, head_again}
use Rattle.type_verifier.proofs.methods.has_right_head.Goals as goal

pub returns-then-not-first-clause-heads : goal.returns-then-not-first-clause-heads
returns-then-not-first-clause-heads c ms are = (c.in_ok-first.ensures ms are).met

pub returns-then-not-first-clause-right : goal.returns-then-not-first-clause-right
returns-then-not-first-clause-right c = head_again c.args.heads.now c.meet.new.self c.args.method.now c.in_ok-first.first c.in_ok-first.ensures c.if-not-first.true

pub returns-clause-heads : goal.returns-clause-heads
returns-clause-heads c ms are = (c.in_ok-first.ensures ms are).met

pub returns-clause-right : goal.returns-clause-right
returns-clause-right c =
    head_first c.args.heads.now c.meet.new.self c.args.method.now c.in_ok-first.first c.has_right_body.result c.in_ok-first.ensures c.if-not-first.false c.has_right_body.ensures
