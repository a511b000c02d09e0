use Rattle.std.proofs.Common.{◌≡◌, map, take}
use Rattle.suite_runs.specs.Placing.{class_at}
use Rattle.suite_runs.proofs.reached.classes_of.Given as goal

abbrev pub invariant-loop-entry : goal.invariant-loop-entry
invariant-loop-entry l = l.classes.items ≡ map (λ e. class_at l.named.classes.items l.named.nameless e.name) (take l.entry-index l.consulted)
