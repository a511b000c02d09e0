use Rattle.std.proofs.Common.{◌≡◌, take}
use Rattle.history_index.specs.Lookouts.{IsLookoutOn, question_of}
use Rattle.history_index.specs.Standings.{listed}
use Rattle.history_index.proofs.lookout.Lookout.add_all.Given as goal

abbrev pub invariant-loop-row : goal.invariant-loop-row
invariant-loop-row l = record {
  place : l.place ≡ l.row-index;
  standings : l.self.standings ≡ l.fn.self.standings;
  on : IsLookoutOn l.index (question_of l.limits l.bounds) (listed l.fn.self.standings) (take l.row-index l.rows) l.self;
}
