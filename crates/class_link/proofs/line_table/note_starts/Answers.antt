use Rattle.std.proofs.Common.{map, take, arith}
use Rattle.std.proofs.lemmas.Grind.{common_steps}
use Rattle.class_link.specs.View.{line_of}
use Rattle.class_link.proofs.line_table.note_starts.Goals as goal

pub loop-row-preserved : goal.loop-row-preserved
loop-row-preserved c = λ none at start h.
    let fact = c.note_start.ensures (map line_of (take c.loop-row.row-index c.args.rows.now)) (c.loop-row.invariant none) at start h in
    grind (arith, common_steps, fact)
