use Rattle.std.proofs.Common.{◌≡◌, ◌++◌}
use Rattle.line_coverage.specs.Words.{tests_of}
use Rattle.line_coverage.proofs.tests.push_word.Given as goal

abbrev pub invariant-loop-rest : goal.invariant-loop-rest
invariant-loop-rest l = l.tests.items ++ tests_of l.base l.rest ≡ l.fn.tests.items ++ tests_of l.base l.word

abbrev pub decreases-loop-rest : goal.decreases-loop-rest
decreases-loop-rest l = l.rest
