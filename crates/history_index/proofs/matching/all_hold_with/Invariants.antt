use Rattle.std.proofs.Common.{◌≡◌, Some, drop}
use Rattle.std.specs.List.{list_all}
use Rattle.history_index.specs.Lookouts.{holds}
use Rattle.history_index.specs.Standings.{listed, standing_with}
use Rattle.history_index.proofs.matching.all_hold_with.Given as goal

abbrev pub invariant-loop-entry : goal.invariant-loop-entry
invariant-loop-entry l =
    list_all (holds (standing_with (listed l.standings) l.other.name (Some l.other.class))) l.consulted
    ≡ list_all (holds (standing_with (listed l.standings) l.other.name (Some l.other.class))) (drop l.entry-index l.consulted)
