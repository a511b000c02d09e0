use Rattle.std.proofs.Common.{◌≡◌}
use Rattle.mutest_engine.specs.Numbers.{numbers_from, numbers_of}
use Rattle.mutest_engine.proofs.numbers.numbers_from.Given as goal

abbrev pub invariant-loop-number : goal.invariant-loop-number
invariant-loop-number l = numbers_of l.ids ≡ numbers_from l.first l.number
