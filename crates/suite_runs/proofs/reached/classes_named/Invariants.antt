use Rattle.std.proofs.Common.{◌≡◌, map, take}
use Rattle.suite_runs.specs.Reaching.{classes_named}
use Rattle.suite_runs.proofs.reached.classes_named.Given as goal

abbrev pub invariant-loop-text : goal.invariant-loop-text
invariant-loop-text l = l.classes.items ≡ classes_named l.program (map (λ s. s.now) (take l.text-index l.texts))
