use Rattle.std.proofs.Common.{refl, length}
use Rattle.history_file.specs.declared.order.Order.{Order}
use Rattle.history_file.proofs.Orders.{order_none}
use Rattle.history_file.proofs.order.Order.new.Goals as goal

pub returns-clause-order : goal.returns-clause-order
returns-clause-order c =
    let o : Order = record { classes = c.args.classes; numbers = c.in_ok-numbers.numbers; used = c.new.result } in
    order_none o (length c.args.classes.now) c.requires.different c.requires.few (c.in_ok-numbers.ensures.items_if_clones_equal (λ y is. is)) refl c.new.ensures
