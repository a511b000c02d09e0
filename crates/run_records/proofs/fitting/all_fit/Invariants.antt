use Rattle.std.proofs.Common.{take}
use Rattle.std.specs.Prelude.{All}
use Rattle.history_rules.specs.Fitting.{FitsEntry}
use Rattle.run_records.proofs.fitting.all_fit.Given as goal

abbrev pub invariant-loop-entry : goal.invariant-loop-entry
invariant-loop-entry l = All FitsEntry (take l.entry-index l.entries)
