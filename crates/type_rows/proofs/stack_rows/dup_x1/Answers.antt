use Rattle.type_rules.specs.Rows.{row}
use Rattle.type_rows.proofs.stack_rows.dup_x1.Goals as goal

pub returns : goal.returns
unfolding row
returns c = c.give_below.ensures
