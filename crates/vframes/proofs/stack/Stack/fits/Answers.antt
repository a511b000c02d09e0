use Rattle.std.proofs.Common.{◌≡◌, ap, sym, ◌∙◌}
use Rattle.std.specs.Prelude.{nat_le}
use Rattle.vframes.specs.View.{words_of}
use Rattle.vframes.proofs.Words.{words_are}
use Rattle.vframes.proofs.stack.Stack.fits.Goals as goal

pub returns : goal.returns
returns c ns =
    ap (λ w. nat_le w c.args.room)
    (c.self.invariant ∙ ap words_of c.self.view_is ∙ sym (words_are ns c.args.self.now))
