use Rattle.std.proofs.Common.{◌≡◌, drop}
use Rattle.library_rules.specs.Texts.{first_difference}
use Rattle.lib_lang.proofs.text.first_difference.Given as goal

abbrev pub invariant-loop-i : goal.invariant-loop-i
invariant-loop-i l =
    first_difference l.left l.right ≡ first_difference (drop l.i l.left) (drop l.i l.right)
