use Rattle.std.proofs.Common.{◌≡◌, take}
use Rattle.class_model.specs.Text.{text}
use Rattle.class_model.proofs.text.write_text.Given as goal

abbrev pub invariant-loop-unit : goal.invariant-loop-unit
invariant-loop-unit l = l.out ≡ text (take l.unit-index l.unit-items)
