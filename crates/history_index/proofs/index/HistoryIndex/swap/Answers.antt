use Rattle.history_index.proofs.Putting.{swap_is}
use Rattle.history_index.proofs.index.HistoryIndex.swap.Goals as goal

pub returns : goal.returns
returns c = swap_is c.args.self.now.history c.args.name.now c.args.bytes.now c.in_ok-number.number c.swap_by-swap.result c.name.ensures.known c.in_ok-number.ensures.number c.swap_by-swap.ensures
