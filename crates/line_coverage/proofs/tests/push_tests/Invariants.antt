use Rattle.std.proofs.Common.{◌≡◌, ◌*◌, ◌++◌, drop}
use Rattle.line_coverage.specs.Words.{tests_from}
use Rattle.line_coverage.proofs.tests.push_tests.Given as goal

abbrev pub invariant-loop-at : goal.invariant-loop-at
invariant-loop-at l = l.tests.items ++ tests_from (64 * l.at) (drop l.at l.words) ≡ l.fn.tests.items ++ tests_from 0 l.words
