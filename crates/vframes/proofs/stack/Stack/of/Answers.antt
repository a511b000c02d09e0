use Rattle.std.proofs.Common.{◌≡◌, reverse, sym, ap, ◌∙◌}
use Rattle.vframes.specs.View.{words_of}
use Rattle.vframes.proofs.Words.{words_turned}
use Rattle.vframes.proofs.stack.Stack.of.Goals as goal

pub invariant_of-result : goal.invariant_of-result
invariant_of-result c =
    c.words_of-words.ensures ∙ sym (words_turned c.args.types.now) ∙ ap (λ ts. words_of (reverse ts)) (sym c.in_ok-items.ensures)
