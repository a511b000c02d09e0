use Rattle.std.proofs.Common.{◌≡◌, ◌≤◌, ◌*◌, length, take}
use Rattle.class_model.specs.Text.{text}
use Rattle.mt_pool.proofs.size.text_size.Given as goal

abbrev pub invariant-loop-unit : goal.invariant-loop-unit
invariant-loop-unit l = (l.size ≡ length (text (take l.unit-index l.units))) × (l.size ≤ 3 * l.unit-index)
