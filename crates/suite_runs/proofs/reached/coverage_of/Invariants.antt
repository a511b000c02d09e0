use Rattle.std.proofs.Common.{◌≡◌, map, take}
use Rattle.suite_runs.specs.Reaching.{CoversKnown}
use Rattle.suite_runs.proofs.reached.coverage_of.Given as goal

abbrev pub invariant-loop-run : goal.invariant-loop-run
invariant-loop-run l = CoversKnown l.program (take l.run-index l.runs) l.cover
