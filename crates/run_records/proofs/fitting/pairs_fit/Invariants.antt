use Rattle.std.proofs.Common.{take}
use Rattle.std.specs.Prelude.{All}
use Rattle.history_rules.specs.Fitting.{FitsPair}
use Rattle.run_records.proofs.fitting.pairs_fit.Given as goal

abbrev pub invariant-loop-pair : goal.invariant-loop-pair
invariant-loop-pair l = All FitsPair (take l.pair-index l.lines)
