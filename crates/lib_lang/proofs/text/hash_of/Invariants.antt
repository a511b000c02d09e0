use Rattle.std.proofs.Common.{◌≡◌, drop}
use Rattle.std.specs.Prelude.{pos}
use Rattle.library_rules.specs.Texts.{hash_from}
use Rattle.lib_lang.proofs.text.hash_of.Given as goal

abbrev pub invariant-loop-unit : goal.invariant-loop-unit
invariant-loop-unit l = hash_from (pos 0) l.units ≡ hash_from l.hash (drop l.unit-index l.units)
