use Rattle.std.proofs.Common.{◌∙◌}
use Rattle.type_verifier.proofs.MethodLaws.{head_refused, body_judged}
use Rattle.type_verifier.proofs.methods.method_fault.Goals as goal

pub returns-then-not-right-clause-fault : goal.returns-then-not-right-clause-fault
returns-then-not-right-clause-fault c k are there =
    head_refused c.args.own.now k c.args.method.now (c.in_ok-right.ensures.right c.args.own.now.linked.now k are there ∙ c.if-not-right.true)

pub returns-clause-fault : goal.returns-clause-fault
returns-clause-fault c k are there =
    body_judged c.args.own.now k c.args.method.now c.in_ok-fault.fault (c.in_ok-right.ensures.right c.args.own.now.linked.now k are there ∙ c.if-not-right.false) c.in_ok-fault.ensures.fault
