use Rattle.std.proofs.Common.{◌≡◌, [], map, take}
use Rattle.new_history.specs.Numbering.{AreClasses, known_by}
use Rattle.new_history.proofs.class_numbers.ClassNumbers.of.Given as goal

abbrev pub invariant-loop-class : goal.invariant-loop-class
invariant-loop-class l = record {
  known : AreClasses l.numbers;
  classes : known_by l.numbers ≡ map (λ s. s.now) (take l.class-index l.classes);
  none : l.numbers.fresh ≡ [];
}
