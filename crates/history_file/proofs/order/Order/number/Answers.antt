use Rattle.std.proofs.Common.{◌∙◌, ◌-◌, refl}
use Rattle.history_file.proofs.Orders.{above_none, number_told}
use Rattle.history_file.proofs.order.Order.number.Goals as goal

pub returns : goal.returns
returns c = c.number_at.ensures ∙ number_told c.args.self.now c.args.class (c.args.class - 1) c.requires.order c.requires.there (above_none c.args.class c.if-class-eq0.false) refl c.requires.used
