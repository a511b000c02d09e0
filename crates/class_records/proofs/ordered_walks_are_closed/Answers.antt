use Rattle.class_records.proofs.Closed.{ordered_closed}
use Rattle.class_records.proofs.ordered_walks_are_closed.Goals as goal

pub returns : goal.returns
returns c = ordered_closed
