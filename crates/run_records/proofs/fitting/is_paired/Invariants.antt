use Rattle.std.proofs.Common.{◌≡◌, false, drop}
use Rattle.history_rules.specs.Reading.{is_paired_from}
use Rattle.run_records.proofs.fitting.is_paired.Given as goal

abbrev pub invariant-loop-unit : goal.invariant-loop-unit
invariant-loop-unit l = is_paired_from false l.name ≡ is_paired_from l.high (drop l.unit-index l.name)
