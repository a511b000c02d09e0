use Rattle.std.proofs.Common.{◌≡◌, ℕ, true, false, drop, get_or}
use Rattle.jvm_marks.specs.Marks.{is_among}
use Rattle.jvm_marks.proofs.marks.unmark_all.Given as goal

abbrev pub invariant-loop-number : goal.invariant-loop-number
invariant-loop-number l =
    (k : ℕ) → get_or l.marks k false ≡ true → is_among k (drop l.number-index l.numbers) ≡ true
