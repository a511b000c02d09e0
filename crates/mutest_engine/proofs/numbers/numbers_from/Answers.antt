use Rattle.std.proofs.Common.{◌+◌}
use Rattle.mutest_engine.proofs.NumberLaws.{pushed}
use Rattle.mutest_engine.proofs.numbers.numbers_from.Goals as goal

pub loop-number-preserved : goal.loop-number-preserved
loop-number-preserved c = pushed c.loop-number.ids c.push.new.self _ c.args.first c.loop-number.number c.in_ok-push.ensures.ok (λ i. c.args.first + c.loop-number.number) c.loop-number.invariant
