use Rattle.std.proofs.Common.{◌≡◌}
use Rattle.job_journal.proofs.numbers.ClassNumbers.of.Given as goal

abbrev pub invariant-loop-class : goal.invariant-loop-class
invariant-loop-class l = l.numbers ≡ l.yielded
