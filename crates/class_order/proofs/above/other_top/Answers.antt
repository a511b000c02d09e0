use Rattle.std.proofs.Common.{◌∙◌, ◌∷◌, [], sym, ap, subst, Some}
use Rattle.class_order.specs.Above.{IsWayUp}
use Rattle.class_order.proofs.Rows.{two_supers}
use Rattle.class_order.proofs.above.other_top.Goals as goal

pub returns-then-is_top : goal.returns-then-is_top
returns-then-is_top c =
    let g = c.args.links.now in
    let first = c.in_ok-first.first in
    subst (λ u. IsWayUp g c.args.class (Some u) (first ∷ [])) c.if-second-through.true (two_supers g c.args.class first c.in_ok-second.second (sym c.in_ok-first.ensures.named) (sym c.in_ok-second.ensures.named) (sym c.next_super-3.ensures.named ∙ c.in-None.is) (c.is_top.ensures c.if-is_top.true))
