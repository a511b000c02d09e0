use Rattle.std.proofs.Common.{sym, ◌∙◌}
use Rattle.jvm_state.proofs.Pairs.{takes_pair_at}
use Rattle.jvm_state.proofs.words.top_pair.Goals as goal

pub returns-then-is_pair-clause-some : goal.returns-then-is_pair-clause-some
returns-then-is_pair-clause-some c = takes_pair_at c.args.operands.now c.args.sp c.in_ok-lower.lower c.in_ok-upper.upper c.in_ok-upper.ensures.some c.in_ok-lower.ensures.some (sym c.is_pair.ensures ∙ c.if-is_pair.true)
