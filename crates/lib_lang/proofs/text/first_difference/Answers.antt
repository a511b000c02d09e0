use Rattle.std.proofs.Common.{◌∙◌, ◌≤◌, sym, drop, length, arith}
use Rattle.lib_lang.proofs.Index.{nothing_left}
use Rattle.lib_lang.proofs.text.first_difference.Goals as goal

pub returns-then-i-right : goal.returns-then-i-right
returns-then-i-right c =
    let le : length c.args.right.now ≤ c.loop-i.i = grind (arith, c.if-i-right.true) in
    sym (c.loop-i.invariant
    ∙ nothing_left (drop c.loop-i.i c.args.left.now) c.args.right.now c.loop-i.i le)
