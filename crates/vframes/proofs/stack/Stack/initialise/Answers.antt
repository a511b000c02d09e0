use Rattle.std.proofs.Common.{◌≡◌, map, reverse, sym, ap, ◌∙◌}
use Rattle.vframes.specs.declared.slot_type.SlotType.TheVariants.{Obj}
use Rattle.vframes.specs.Fresh.{slot_replaced}
use Rattle.vframes.specs.View.{words_of}
use Rattle.vframes.proofs.FreshLaws.{map_turned, words_replaced}
use Rattle.vframes.proofs.stack.Stack.initialise.Goals as goal

pub invariant_of-result : goal.invariant_of-result
invariant_of-result c =
    let f = slot_replaced c.args.fresh (Obj c.args.class) in
    let xs = c.self.inside.items.items in
    c.self.invariant ∙ sym (words_replaced c.args.fresh c.args.class (reverse xs))
    ∙ ap words_of (map_turned f xs ∙ ap reverse (sym (c.in_ok-items.ensures ∙ ap (map f) c.deref.ensures.value)))

pub returns : goal.returns
returns c =
    let f = slot_replaced c.args.fresh (Obj c.args.class) in
    ap reverse (c.in_ok-items.ensures ∙ ap (map f) c.deref.ensures.value)
    ∙ sym (map_turned f c.self.inside.items.items) ∙ ap (map f) c.self.view_is
