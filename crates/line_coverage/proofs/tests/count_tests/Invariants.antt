use Rattle.std.proofs.Common.{◌≡◌, ◌+◌, ◌*◌, ◌<◌, ◌^◌, length, drop}
use Rattle.std.specs.Io.Iter.{u64_saturate}
use Rattle.line_coverage.specs.Words.{tests_from}
use Rattle.line_coverage.proofs.tests.count_tests.Given as goal

abbrev pub invariant-loop-word : goal.invariant-loop-word
invariant-loop-word l = record {
  told : u64_saturate (l.count + length (tests_from (64 * l.word-index) (drop l.word-index l.words))) ≡ u64_saturate (length (tests_from 0 l.words));
  fits : l.count < 2 ^ 64;
}
