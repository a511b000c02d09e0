use Rattle.std.proofs.Common.{◌≡◌, ◌++◌, take}
use Rattle.test_discovery.specs.Scripts.{calls_as}
use Rattle.test_discovery.proofs.script.push_calls_as.Given as goal

abbrev pub invariant-loop-method : goal.invariant-loop-method
invariant-loop-method l = l.calls ≡ l.initial.calls ++ calls_as l.part (take l.method-index l.listed)
