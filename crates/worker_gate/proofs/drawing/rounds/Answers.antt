use Rattle.worker_gate.proofs.RoundLaws.{rounds_are, grows_start}
use Rattle.worker_gate.proofs.drawing.rounds.Goals as goal

pub add_next-requires : goal.add_next-requires
add_next-requires c = grows_start c.args.mutants.now c.in_ok-order.order.items c.in_ok-order.ensures

pub returns : goal.returns
returns c = rw c.from_vec.ensures (rounds_are c.args.mutants.now c.in_ok-order-2.order.items c.requires c.in_ok-order-2.ensures)
