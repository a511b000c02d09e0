use Rattle.std.proofs.Common.{◌≡◌, ◌∷◌, ◌++◌, refl, ap, sym, ◌∙◌}
use Rattle.type_rules.specs.Rows.{row, gives}
use Rattle.vframes.specs.View.{type_of, types_in}
use Rattle.vframes.specs.FrameView.{types_of}
use Rattle.type_rows.proofs.arithmetic_rows.give_type.Goals as goal

pub returns : goal.returns
unfolding row
returns c ns s e = ap (λ ts. gives s (types_of ns c.args.f.now) (types_in ns ts)) (sym c.in_ok-push.ensures)
    ∙ c.give.ensures ns s e
