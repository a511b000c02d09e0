use Rattle.std.proofs.Common.{◌≡◌, ap, sym, ◌∙◌}
use Rattle.std.specs.List.{list_any}
use Rattle.vframes.specs.Fresh.{is_fresh}
use Rattle.vframes.proofs.FreshLaws.{any_turned}
use Rattle.vframes.proofs.stack.Stack.has.Goals as goal

pub returns : goal.returns
returns c =
    c.is_among.ensures ∙ ap (list_any (is_fresh c.args.fresh)) c.deref.ensures.value
    ∙ sym (any_turned (is_fresh c.args.fresh) c.self.inside.items.items) ∙ ap (list_any (is_fresh c.args.fresh)) c.self.view_is
