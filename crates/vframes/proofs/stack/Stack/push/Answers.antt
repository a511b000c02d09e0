use Rattle.std.proofs.Common.{◌≡◌, length, reverse, arith, ap, sym, ◌∙◌}
use Rattle.std.proofs.lemmas.Grind.{common_steps}
use Rattle.std.proofs.lemmas.List.{length-reverse}
use Rattle.vframes.proofs.Words.{words_most}
use Rattle.vframes.proofs.stack.Stack.push.Goals as goal

pub overflow_add-self : goal.overflow_add-self
overflow_add-self c =
    let items = c.self.inside.items.items in
    let long : c.len-count.result ≡ length items = grind (arith, common_steps, c.len-count.ensures) in
    let turned = length-reverse items in
    let most = words_most (reverse items) in
    omega (arith, c.self.invariant, most, turned, long, c.width.ensures.small)
