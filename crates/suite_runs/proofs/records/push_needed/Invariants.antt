use Rattle.std.specs.Prelude.{All}
use Rattle.std.proofs.Common.{take}
use Rattle.history_file.specs.Rows.{Numbered}
use Rattle.suite_runs.specs.Keeping.{AddsKept, IsOf}
use Rattle.suite_runs.proofs.records.push_needed.Given as goal

abbrev pub invariant-loop-run : goal.invariant-loop-run
invariant-loop-run l = (h : Numbered) → All (IsOf h) l.runs → AddsKept h (take l.run-index l.runs) l.fn.all.items l.all.items
