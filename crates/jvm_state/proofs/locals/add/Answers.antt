use Rattle.std.proofs.Common.{lit≤}
use Rattle.std.specs.Int.{w16, w32}
use Rattle.std.proofs.lemmas.Int.{wrapping_add_is, to_z-of_z}
use Rattle.std.proofs.Math.Nat.{lt_of_lt_of_le}
use mir.Val.{SFits}
use Rattle.jvm_state.proofs.locals.add.Goals as goal

pub returns : goal.returns
returns c =
    let small : SFits w16 c.args.by = c.ranges.by in
    let fits : SFits w32 c.args.by = record { sfits = lt_of_lt_of_le small.sfits (lit≤ tt) } in
    rw (to_z-of_z w16 c.args.by small) (wrapping_add_is w32 c.args.z c.args.by c.ranges.z fits)
