use Rattle.std.proofs.Common.{◌∙◌, sym, subst, Some}
use Rattle.class_order.specs.Graph.{supers_at}
use Rattle.class_order.specs.Above.{IsWayUp}
use Rattle.class_order.proofs.Rows.{one_super, no_second}
use Rattle.class_order.proofs.above.others.Goals as goal

pub returns-in_default-clause-way : goal.returns-in_default-clause-way
returns-in_default-clause-way c =
    let g = c.args.links.now in
    let one = no_second (supers_at g c.args.class) (sym c.next_super.ensures.named ∙ c.in_default.is) in
    subst (IsWayUp g c.args.class (Some c.args.through)) (sym c.new.ensures.items) (one_super g c.args.class c.args.through c.requires.through one)
