use Rattle.std.proofs.Common.{◌≡◌, ◌<◌, ◌^◌, drop}
use Rattle.library_rules.specs.Numbers.{digits_from}
use Rattle.lib_lang.proofs.number.digits_from.Given as goal

abbrev pub invariant-loop-unit : goal.invariant-loop-unit
invariant-loop-unit l =
    (digits_from 0 l.units ≡ digits_from l.value (drop l.unit-index l.units))
    × (l.value < 2 ^ 36)
