use Rattle.worker_gate.proofs.Settling.{put_more}
use Rattle.worker_gate.proofs.settled.place_list.Goals as goal

pub loop-cell-preserved : goal.loop-cell-preserved
loop-cell-preserved g c = put_more _ _ c.in-Some.cell c.loop-cell.places c.place_cell.new.places _ c.loop-cell.invariant c.in-Some.ensures.steps.0 c.place_cell.ensures
