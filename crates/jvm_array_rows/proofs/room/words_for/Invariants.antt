use Rattle.std.proofs.Common.{◌≤◌, length, drop}
use Rattle.jvm_array_rows.specs.Built.{words_for, WordsWithin}
use Rattle.jvm_array_rows.proofs.room.words_for.Given as goal

abbrev pub invariant-loop-left : goal.invariant-loop-left
invariant-loop-left l = record {
  words : WordsWithin l.words (words_for (drop l.left l.counts)) l.limit;
  within : l.left ≤ length l.counts;
}

abbrev pub decreases-loop-left : goal.decreases-loop-left
decreases-loop-left l = l.left
