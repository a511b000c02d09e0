use Rattle.worker_gate.specs.Rounds.{Grows}
use Rattle.worker_gate.proofs.drawing.add_next.Given as goal

abbrev pub invariant-loop-drawn : goal.invariant-loop-drawn
invariant-loop-drawn l = Grows l.mutants l.drawn l.order.items
