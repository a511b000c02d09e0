use Rattle.std.proofs.Common.{◌≡◌, map, take}
use Rattle.suite_runs.specs.Reaching.{classes_in}
use Rattle.suite_runs.proofs.reached.classes_in.Given as goal

abbrev pub invariant-loop-entry : goal.invariant-loop-entry
invariant-loop-entry l = l.classes.items ≡ classes_in l.program (take l.entry-index l.consulted)
