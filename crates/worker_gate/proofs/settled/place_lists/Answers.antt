use Rattle.worker_gate.proofs.Settling.{list_put}
use Rattle.worker_gate.proofs.settled.place_lists.Goals as goal

pub loop-list-preserved : goal.loop-list-preserved
loop-list-preserved g c = list_put _ _ c.in-Some.list c.loop-list.places c.place_list.new.places _ c.loop-list.invariant c.in-Some.ensures.steps.0 c.place_list.ensures
