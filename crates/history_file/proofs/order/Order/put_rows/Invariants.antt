use Rattle.history_file.proofs.Orders.{RowsPut}
use Rattle.history_file.proofs.order.Order.put_rows.Given as goal

abbrev pub invariant-loop-row : goal.invariant-loop-row
invariant-loop-row l = RowsPut l.fn.self l.rows l.row-index l.self
