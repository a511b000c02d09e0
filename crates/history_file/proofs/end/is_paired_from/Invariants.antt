use Rattle.std.proofs.Common.{◌≡◌, length}
use Rattle.history_rules.specs.Reading.{is_paired_from}
use Rattle.history_file.proofs.end.is_paired_from.Given as goal

abbrev pub invariant-loop-rest : goal.invariant-loop-rest
invariant-loop-rest l = is_paired_from l.open l.rest ≡ is_paired_from l.fn.high l.fn.units

abbrev pub decreases-loop-rest : goal.decreases-loop-rest
decreases-loop-rest l = length l.rest
