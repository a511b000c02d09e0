use Rattle.std.proofs.Common.{◌≡◌, map, take}
use Rattle.run_records.specs.Places.{placed}
use Rattle.run_records.proofs.reached.placed.Given as goal

abbrev pub invariant-loop-line : goal.invariant-loop-line
invariant-loop-line l = l.pairs.items ≡ map (placed l.consulted) (take l.line-index l.lines)
