use Rattle.std.proofs.Common.{◌≡◌, ap, sym, ◌∙◌}
use Rattle.std.specs.Prelude.{nat_le, if◌then◌else◌}
use Rattle.type_rules.specs.Assignability.{height}
use Rattle.type_rules.specs.Rows.{Checked, Falls, Fails}
use Rattle.vframes.specs.View.{types_in}
use Rattle.vframes.specs.FrameView.{types_of}
use Rattle.type_rows.proofs.answer.give.Goals as goal

pub returns-then-fits : goal.returns-then-fits
returns-then-fits c ns s e =
    ap (λ b. if b then Falls (types_of ns c.args.f.now) else Fails 8)
    (ap (nat_le (height (types_in ns c.args.f.now.stack))) e ∙ sym (c.if-fits.ensures ns))

pub returns-else-fits : goal.returns-else-fits
returns-else-fits c ns s e =
    ap (λ b. if b then Falls (types_of ns c.args.f.now) else Fails 8)
    (ap (nat_le (height (types_in ns c.args.f.now.stack))) e ∙ sym (c.if-fits.ensures ns))
