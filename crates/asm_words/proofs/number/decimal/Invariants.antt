use Rattle.std.proofs.Common.{◌≡◌, drop}
use Rattle.asm_words.specs.Numbers.{decimal_from}
use Rattle.asm_words.proofs.number.decimal.Given as goal

abbrev pub invariant-loop-unit : goal.invariant-loop-unit
invariant-loop-unit l = decimal_from l.value (drop l.unit-index l.units) ≡ decimal_from 0 l.units
