use Rattle.std.proofs.Common.{◌≡◌, map, take}
use Rattle.suite_runs.specs.Placing.{lines_at}
use Rattle.suite_runs.proofs.reached.lines_at.Given as goal

abbrev pub invariant-loop-pair : goal.invariant-loop-pair
invariant-loop-pair l = l.lines.items ≡ lines_at l.classes l.nameless (take l.pair-index l.reached)
