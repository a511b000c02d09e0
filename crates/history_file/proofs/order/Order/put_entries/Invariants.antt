use Rattle.history_file.proofs.Orders.{EntriesPut}
use Rattle.history_file.proofs.order.Order.put_entries.Given as goal

abbrev pub invariant-loop-entry : goal.invariant-loop-entry
invariant-loop-entry l = EntriesPut l.fn.self l.entries l.entry-index l.self
