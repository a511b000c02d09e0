use Rattle.std.proofs.Common.{take}
use Rattle.class_table.specs.Table.{look}
use Rattle.history_index.specs.Standings.{AreStandings}
use Rattle.run_records.specs.Asking.{held_by}
use Rattle.suite_workers.proofs.look_ups.standings_of.Given as goal

abbrev pub invariant-loop-number : goal.invariant-loop-number
invariant-loop-number l = AreStandings l.index.history (look (take l.number l.program)) (held_by (take l.number l.program)) l.standings
