use Rattle.worker_gate.specs.Rounds.{AreFirsts}
use Rattle.worker_gate.proofs.drawing.first_cells.Given as goal

abbrev pub invariant-loop-cell : goal.invariant-loop-cell
invariant-loop-cell l = AreFirsts l.mutants l.cell l.order.items
