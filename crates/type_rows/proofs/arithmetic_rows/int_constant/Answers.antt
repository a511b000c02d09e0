use Rattle.std.proofs.Common.{◌≡◌, ◌∷◌, ◌++◌, refl, ap, sym, ◌∙◌}
use Rattle.type_rules.specs.Rows.{row, gives}
use Rattle.vframes.specs.View.{type_of, types_in}
use Rattle.vframes.specs.FrameView.{types_of}
use Rattle.type_rows.proofs.arithmetic_rows.int_constant.Goals as goal

pub returns : goal.returns
unfolding row
returns c z ns s at e =
    ap (λ ts. gives s (types_of ns c.args.f.now) (types_in ns ts)) (sym (c.in_ok-push.ensures))
    ∙ c.give.ensures ns s e
