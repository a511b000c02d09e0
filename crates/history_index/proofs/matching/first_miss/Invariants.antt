use Rattle.std.proofs.Common.{◌≡◌, drop}
use Rattle.std.specs.Prelude.{find, not}
use Rattle.history_index.specs.Lookouts.{holds}
use Rattle.history_index.specs.Standings.{listed}
use Rattle.history_index.proofs.matching.first_miss.Given as goal

abbrev pub invariant-loop-entry : goal.invariant-loop-entry
invariant-loop-entry l =
    find (λ e. not (holds (listed l.standings) e)) l.consulted ≡ find (λ e. not (holds (listed l.standings) e)) (drop l.entry-index l.consulted)
