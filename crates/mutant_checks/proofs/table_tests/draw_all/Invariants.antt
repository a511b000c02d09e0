use Rattle.std.proofs.Common.{◌≡◌}
use Rattle.mutant_table.specs.Seats.{IsSeatOf, worker_of}
use Rattle.mutant_checks.proofs.table_tests.draw_all.Given as goal

abbrev pub invariant-loop : goal.invariant-loop
invariant-loop l = IsSeatOf l.table l.seat × (worker_of l.seat ≡ worker_of l.initial.seat)
