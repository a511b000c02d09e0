use Rattle.new_history.proofs.Taking.{old_needed}
use Rattle.new_history.proofs.rows.row_of.Goals as goal

pub returns-in_ok-row-in-Old : goal.returns-in_ok-row-in-Old
returns-in_ok-row-in-Old c =
    old_needed c.args.numbers.now c.args.needed c.in-Old.row c.in_ok-row-in-Old.row c.in-Old.limit c.requires.known c.in-Old.is c.in_ok-row-in-Old.ensures
