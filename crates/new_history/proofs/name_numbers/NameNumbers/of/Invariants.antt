use Rattle.std.proofs.Common.{◌≡◌, take}
use Rattle.new_history.specs.Numbering.{AreNames, names_by}
use Rattle.new_history.proofs.name_numbers.NameNumbers.of.Given as goal

abbrev pub invariant-loop-name : goal.invariant-loop-name
invariant-loop-name l = record {
  known : AreNames l.numbers;
  names : names_by l.numbers ≡ take l.name-index l.names;
}
