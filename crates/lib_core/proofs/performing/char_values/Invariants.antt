use Rattle.std.proofs.Common.{◌≡◌, take, map}
use Rattle.machine_rules.specs.Performing.{char_value}
use Rattle.lib_core.proofs.performing.char_values.Given as goal

abbrev pub invariant-loop-unit : goal.invariant-loop-unit
invariant-loop-unit l = l.values.items ≡ map char_value (take l.unit-index l.units)
