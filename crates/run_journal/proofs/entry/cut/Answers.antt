use Rattle.std.proofs.Common.{◌∙◌, ◌≤◌, length, sym, arith}
use Rattle.run_journal.proofs.Cutting.{take_over, drop_over}
use Rattle.run_journal.proofs.entry.cut.Goals as goal

pub returns-then-content-lt255-clause-front : goal.returns-then-content-lt255-clause-front
returns-then-content-lt255-clause-front c =
    let t = c.if-content-lt255.true in
    let le : length c.args.content.now ≤ 255 = omega (arith, t) in
    c.split_at.ensures.front ∙ sym (take_over 255 c.args.content.now le)

pub returns-then-content-lt255-clause-behind : goal.returns-then-content-lt255-clause-behind
returns-then-content-lt255-clause-behind c =
    let t = c.if-content-lt255.true in
    let le : length c.args.content.now ≤ 255 = omega (arith, t) in
    c.split_at.ensures.back ∙ sym (drop_over 255 c.args.content.now le)
