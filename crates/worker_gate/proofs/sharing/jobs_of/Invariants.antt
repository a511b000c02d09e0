use Rattle.std.proofs.Common.{◌≡◌, ◌+◌, ◌≤◌, ◌++◌, length, map, reverse}
use Rattle.std.specs.Prelude.{All, vec_capacity}
use Rattle.worker_gate.specs.Sharing.{HasCountedNothing, hands_in, seat_in}
use Rattle.worker_gate.proofs.sharing.jobs_of.Given as goal

abbrev pub invariant-loop-seat : goal.invariant-loop-seat
invariant-loop-seat g l = record {
  hands : l.hands.items ++ reverse (map hands_in l.jobs.items) ≡ l.initial.hands.items;
  seats : l.seats.items ++ reverse (map seat_in l.jobs.items) ≡ l.initial.seats.items;
  nothing : All HasCountedNothing l.jobs.items;
  count : length l.hands.items ≡ length l.seats.items;
  room : length l.seats.items + length l.jobs.items ≤ vec_capacity l.jobs;
  meter : l.meter ≡ l.initial.meter;
}

abbrev pub decreases-loop-seat : goal.decreases-loop-seat
decreases-loop-seat g l = length l.seats.items
