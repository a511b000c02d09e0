use Rattle.std.proofs.Common.{◌≡◌, ◌+◌, ◌<◌, ◌^◌, drop, length}
use Rattle.class_model.specs.Text.{text}
use Rattle.run_records.proofs.fitting.is_short.Given as goal

abbrev pub invariant-loop-unit : goal.invariant-loop-unit
invariant-loop-unit l = (l.len + length (text (drop l.unit-index l.units)) ≡ length (text l.units)) × (l.len < 2 ^ 16)
