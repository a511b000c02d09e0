use Rattle.std.proofs.Common.{subst, MatchOption}
use Rattle.jvm_frames.specs.Frames.{stack_of}
use Rattle.jvm_rows.proofs.Ends.{no_row}
use Rattle.jvm_array_rows.specs.Rows.{TakesCounts, NoCounts, dimensioned_row}
use Rattle.jvm_array_rows.proofs.Ways.{no_counts}
use Rattle.jvm_array_rows.proofs.arrays.make_dimensioned.Goals as goal

pub returns-in-None-clause-row : goal.returns-in-None-clause-row
returns-in-None-clause-row c =
    let p = c.args.p.now in
    let n = c.args.name.now in
    let k = c.args.count in
    let stack = stack_of c.args.frames.now.frame in
    no_row p (dimensioned_row n k) c.args.frames.now c.args.world.now
    (no_counts p c.args.frames.now c.args.world.now n k
    (subst (λ o. MatchOption o (NoCounts k stack) (λ zs. TakesCounts k stack zs.items)) c.in-None.is c.in_ok-read.ensures.counts))
