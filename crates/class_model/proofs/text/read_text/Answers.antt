use Rattle.std.proofs.Common.{sym}
use Rattle.class_model.proofs.TextLaws.{step, is_whole, is_bad}
use Rattle.class_model.proofs.TextReading.{units_of-whole, units_of-bad}
use Rattle.class_model.proofs.text.read_text.Goals as goal

pub loop-rest-preserved : goal.loop-rest-preserved
loop-rest-preserved c =
    rw c.in_ok-push.ensures.ok (step c.loop-rest.name c.in-Some.unit c.in-Some.after.now c.loop-rest.rest.now c.args.bytes.now c.in-Some.ensures c.loop-rest.invariant.0 c.loop-rest.invariant.1)

pub returns-clause-only : goal.returns-clause-only
returns-clause-only c =
    is_whole c.loop-rest.name c.loop-rest.rest.now c.args.bytes.now (sym c.loop-rest-test.ensures) c.loop-rest.invariant.0 c.loop-rest.invariant.1

pub returns-in_default-clause-only : goal.returns-in_default-clause-only
returns-in_default-clause-only c = λ name named e.
    absurd (is_bad c.loop-rest.name c.loop-rest.rest.now c.args.bytes.now (sym c.loop-rest-test.ensures) c.in_default.ensures c.loop-rest.invariant.0 c.loop-rest.invariant.1 name named e)

pub returns-clause-exact : goal.returns-clause-exact
returns-clause-exact c =
    units_of-whole c.loop-rest.name c.loop-rest.rest.now c.args.bytes.now (sym c.loop-rest-test.ensures) c.loop-rest.invariant.0 c.loop-rest.invariant.1

pub returns-in_default-clause-exact : goal.returns-in_default-clause-exact
returns-in_default-clause-exact c = λ other.
    units_of-bad c.loop-rest.name c.loop-rest.rest.now c.args.bytes.now (sym c.loop-rest-test.ensures) c.in_default.ensures c.loop-rest.invariant.0 c.loop-rest.invariant.1
