use Rattle.std.proofs.Common.{◌≡◌, drop}
use Rattle.library_rules.specs.Texts.{index_from}
use Rattle.lib_lang.proofs.parts.first_index.Given as goal

abbrev pub invariant-loop-i : goal.invariant-loop-i
invariant-loop-i l = index_from l.wanted 0 l.units ≡ index_from l.wanted l.i (drop l.i l.units)
