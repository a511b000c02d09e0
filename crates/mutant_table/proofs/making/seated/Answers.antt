use Rattle.std.proofs.Common.{ap, arith}
use Rattle.mutant_table.proofs.Moves.{splits}
use Rattle.mutant_table.proofs.making.seated.Goals as goal

pub split_seat-seat-requires : goal.split_seat-seat-requires
split_seat-seat-requires c =
    let i = c.loop.invariant in
    let made = ap (λ m. m.0.made) i.1 in
    let under = c.loop-test.true in
    let all = c.requires.workers.0 in
    (i.0, c.requires.words, splits _ _ _ (ap (λ m. m.0.live) i.1) (ap (λ m. m.0.worker) i.1) (omega arith))
