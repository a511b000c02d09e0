use Rattle.std.proofs.Common.{◌≡◌, ◌∷◌, ◌++◌, refl, ap, sym, ◌∙◌}
use Rattle.type_rules.specs.Rows.{row, gives}
use Rattle.vframes.specs.View.{type_of, types_in}
use Rattle.vframes.specs.FrameView.{types_of}
use Rattle.type_rows.proofs.arithmetic_rows.int_operation.Goals as goal

pub returns-then-not-take_int-clause-operation : goal.returns-then-not-take_int-clause-operation
unfolding row
returns-then-not-take_int-clause-operation c op ns s at e = c.if-not-take_int.ensures.no refl ns _

pub returns-then-not-take_int-clause-shift : goal.returns-then-not-take_int-clause-shift
unfolding row
returns-then-not-take_int-clause-shift c op ns s at e = c.if-not-take_int.ensures.no refl ns _

pub returns-then-not-take_int-2-clause-operation : goal.returns-then-not-take_int-2-clause-operation
unfolding row
returns-then-not-take_int-2-clause-operation c op ns s at e = c.if-not-take_int.ensures.yes refl ns _
    ∙ c.if-not-take_int-2.ensures.no refl ns _

pub returns-then-not-take_int-2-clause-shift : goal.returns-then-not-take_int-2-clause-shift
unfolding row
returns-then-not-take_int-2-clause-shift c op ns s at e = c.if-not-take_int.ensures.yes refl ns _
    ∙ c.if-not-take_int-2.ensures.no refl ns _

pub returns-clause-operation : goal.returns-clause-operation
unfolding row
returns-clause-operation c op ns s at e =
    c.if-not-take_int.ensures.yes refl ns _
    ∙ c.if-not-take_int-2.ensures.yes refl ns _
    ∙ ap (λ ts. gives s (types_of ns c.args.f.now) (types_in ns ts)) (sym (c.in_ok-push.ensures))
    ∙ c.give.ensures ns s e

pub returns-clause-shift : goal.returns-clause-shift
unfolding row
returns-clause-shift c op ns s at e =
    c.if-not-take_int.ensures.yes refl ns _
    ∙ c.if-not-take_int-2.ensures.yes refl ns _
    ∙ ap (λ ts. gives s (types_of ns c.args.f.now) (types_in ns ts)) (sym (c.in_ok-push.ensures))
    ∙ c.give.ensures ns s e
