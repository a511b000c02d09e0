use Rattle.std.proofs.Common.{ap, slice_set}
use Rattle.worker_gate.proofs.settled.place_cell.Goals as goal

pub returns-then-at-places : goal.returns-then-at-places
returns-then-at-places g c = ap (λ d. slice_set c.args.places.now c.args.cell.0 d) c.replace-none.ensures.after
