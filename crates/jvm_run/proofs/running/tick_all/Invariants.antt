use Rattle.std.proofs.Common.{◌≡◌, ◌+◌}
use Rattle.jvm_run.proofs.running.tick_all.Given as goal

abbrev pub invariant-loop : goal.invariant-loop
invariant-loop l = l.part ≡ l.fn.part + l.counter
