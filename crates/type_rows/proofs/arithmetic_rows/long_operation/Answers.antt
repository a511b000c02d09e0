use Rattle.std.proofs.Common.{◌≡◌, ◌∷◌, ◌++◌, refl, ap, sym, ◌∙◌}
use Rattle.type_rules.specs.Rows.{row, gives}
use Rattle.vframes.specs.View.{type_of, types_in}
use Rattle.vframes.specs.FrameView.{types_of}
use Rattle.type_rows.proofs.arithmetic_rows.long_operation.Goals as goal

pub returns-then-not-take_long : goal.returns-then-not-take_long
unfolding row
returns-then-not-take_long c op ns s at e = c.if-not-take_long.ensures.no refl ns _

pub returns-then-not-take_long-2 : goal.returns-then-not-take_long-2
unfolding row
returns-then-not-take_long-2 c op ns s at e = c.if-not-take_long.ensures.yes refl ns _
    ∙ c.if-not-take_long-2.ensures.no refl ns _

pub returns : goal.returns
unfolding row
returns c op ns s at e =
    c.if-not-take_long.ensures.yes refl ns _
    ∙ c.if-not-take_long-2.ensures.yes refl ns _
    ∙ ap (λ ts. gives s (types_of ns c.args.f.now) (types_in ns ts)) (sym (c.in_ok-push.ensures))
    ∙ c.give.ensures ns s e
