use Rattle.std.proofs.Common.{arith}
use Rattle.mutant_table.proofs.Moves.{detects}
use Rattle.mutant_table.proofs.table.ClaimTable.detect.Goals as goal

pub fetch_min-requires : goal.fetch_min-requires
fetch_min-requires c =
    let words = c.args.self.now.words_are in
    let lt = c.requires.mutant in
    (c.requires.seat.table_is, omega arith, detects _ _ _ _ _ _ lt c.requires.place c.args.seat.now.live)
