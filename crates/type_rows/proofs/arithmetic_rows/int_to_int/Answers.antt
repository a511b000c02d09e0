use Rattle.std.proofs.Common.{◌≡◌, ◌∷◌, ◌++◌, refl, ap, sym, ◌∙◌}
use Rattle.type_rules.specs.Rows.{row, gives}
use Rattle.vframes.specs.View.{type_of, types_in}
use Rattle.vframes.specs.FrameView.{types_of}
use Rattle.type_rows.proofs.arithmetic_rows.int_to_int.Goals as goal

pub returns-then-not-take_int-clause-negate : goal.returns-then-not-take_int-clause-negate
unfolding row
returns-then-not-take_int-clause-negate c ns s at e = c.if-not-take_int.ensures.no refl ns _

pub returns-then-not-take_int-clause-byte : goal.returns-then-not-take_int-clause-byte
unfolding row
returns-then-not-take_int-clause-byte c ns s at e = c.if-not-take_int.ensures.no refl ns _

pub returns-then-not-take_int-clause-char : goal.returns-then-not-take_int-clause-char
unfolding row
returns-then-not-take_int-clause-char c ns s at e = c.if-not-take_int.ensures.no refl ns _

pub returns-then-not-take_int-clause-short : goal.returns-then-not-take_int-clause-short
unfolding row
returns-then-not-take_int-clause-short c ns s at e = c.if-not-take_int.ensures.no refl ns _

pub returns-clause-negate : goal.returns-clause-negate
unfolding row
returns-clause-negate c ns s at e =
    c.if-not-take_int.ensures.yes refl ns _
    ∙ ap (λ ts. gives s (types_of ns c.args.f.now) (types_in ns ts)) (sym (c.in_ok-push.ensures))
    ∙ c.give.ensures ns s e

pub returns-clause-byte : goal.returns-clause-byte
unfolding row
returns-clause-byte c ns s at e =
    c.if-not-take_int.ensures.yes refl ns _
    ∙ ap (λ ts. gives s (types_of ns c.args.f.now) (types_in ns ts)) (sym (c.in_ok-push.ensures))
    ∙ c.give.ensures ns s e

pub returns-clause-char : goal.returns-clause-char
unfolding row
returns-clause-char c ns s at e =
    c.if-not-take_int.ensures.yes refl ns _
    ∙ ap (λ ts. gives s (types_of ns c.args.f.now) (types_in ns ts)) (sym (c.in_ok-push.ensures))
    ∙ c.give.ensures ns s e

pub returns-clause-short : goal.returns-clause-short
unfolding row
returns-clause-short c ns s at e =
    c.if-not-take_int.ensures.yes refl ns _
    ∙ ap (λ ts. gives s (types_of ns c.args.f.now) (types_in ns ts)) (sym (c.in_ok-push.ensures))
    ∙ c.give.ensures ns s e
