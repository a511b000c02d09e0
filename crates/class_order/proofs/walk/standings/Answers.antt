use Rattle.class_order.proofs.Steps.{start_walk, end_found}
use Rattle.class_order.proofs.walk.standings.Goals as goal

pub visit_all-requires-clause-walk : goal.visit_all-requires-clause-walk
visit_all-requires-clause-walk c = start_walk c.args.links.now c.in_ok-walk.walk c.in_ok-walk.ensures

pub returns : goal.returns
returns c = end_found c.args.links.now c.visit_all.new.walk c.in_ok-visit_all.ensures
