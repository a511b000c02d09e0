use Rattle.std.proofs.Common.{◌≡◌, map, take}
use Rattle.history_index.specs.Numbers.{test_number}
use Rattle.suite_workers.proofs.look_ups.numbers_of.Given as goal

abbrev pub invariant-loop-test : goal.invariant-loop-test
invariant-loop-test l = l.numbers.items ≡ map (λ t. test_number l.index t.class t.method) (take l.test-index l.tests)
