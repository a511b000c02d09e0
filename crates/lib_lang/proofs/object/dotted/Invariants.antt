use Rattle.std.proofs.Common.{◌≡◌, take, map}
use Rattle.library_rules.specs.Objects.{dot_for}
use Rattle.lib_lang.proofs.object.dotted.Given as goal

abbrev pub invariant-loop-unit : goal.invariant-loop-unit
invariant-loop-unit l = l.name.items ≡ map dot_for (take l.unit-index l.units)
