use Rattle.std.proofs.Common.{◌∙◌, ◌+◌, ap}
use Rattle.history_index.specs.Lookouts.{question_of}
use Rattle.history_index.specs.Standings.{listed}
use Rattle.history_index.proofs.Adding.{all_step}
use Rattle.history_index.proofs.Listing.{has_room}
use Rattle.history_index.proofs.lookout.Lookout.add_all.Goals as goal

pub add-requires-clause-room : goal.add-requires-clause-room
add-requires-clause-room c = has_room c.args.index.now (question_of c.args.limits c.args.bounds.now) (listed c.args.self.now.standings) c.args.rows.now c.loop-row.row-index c.loop-row.place c.loop-row.self c.loop-row-test.true c.requires.few c.loop-row.invariant.place c.loop-row.invariant.on

pub loop-row-preserved : goal.loop-row-preserved
loop-row-preserved c = record {
  place = ap (λ k. k + 1) c.loop-row.invariant.place;
  standings = c.in_ok-add.ensures.standings ∙ c.loop-row.invariant.standings;
  on = all_step c.args.index.now (question_of c.args.limits c.args.bounds.now) c.args.rows.now c.loop-row.row-index c.loop-row.place c.row-item.result c.args.self.now.standings c.loop-row.self c.add.new.self c.loop-row-test.true c.row-item.is c.loop-row.invariant.place c.loop-row.invariant.standings c.loop-row.invariant.on c.in_ok-add.ensures;
}
