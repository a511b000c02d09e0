use Rattle.new_history.proofs.Taking.{RowsSoFar}
use Rattle.new_history.proofs.rows.rows_of.Given as goal

abbrev pub invariant-loop-one : goal.invariant-loop-one
invariant-loop-one l = RowsSoFar l.needed l.one-index l.fn.numbers l.numbers l.rows
