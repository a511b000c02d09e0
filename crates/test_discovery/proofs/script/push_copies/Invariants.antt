use Rattle.std.proofs.Common.{◌≡◌, ◌++◌, take}
use Rattle.test_discovery.proofs.script.push_copies.Given as goal

abbrev pub invariant-loop-call : goal.invariant-loop-call
invariant-loop-call l = l.script ≡ l.initial.script ++ (take l.call-index l.calls)
