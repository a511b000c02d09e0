use Rattle.std.proofs.Common.{◌∙◌, ℕ, Bool, sym, ap}
use Rattle.std.specs.Prelude.{not}
use Rattle.shard_rules.specs.Sets.{has_index}
use Rattle.shard_merge.proofs.Finding.{found_first, none_more}
use Rattle.shard_merge.proofs.set.missing_index.Goals as goal

pub loop-before-preserved : goal.loop-before-preserved
loop-before-preserved c =
    none_more (λ (i : ℕ). not (has_index c.args.heads.now i)) c.loop-before.before c.loop-before.invariant
    (ap (λ (b : Bool). not b) (sym c.has_index.ensures ∙ c.if-not-has_index.false))

pub returns-then-not-has_index : goal.returns-then-not-has_index
returns-then-not-has_index c =
    sym
    (found_first (λ (i : ℕ). not (has_index c.args.heads.now i)) c.loop-before.before c.args.count c.loop-before-test.true c.loop-before.invariant
    (ap (λ (b : Bool). not b) (sym c.has_index.ensures ∙ c.if-not-has_index.true)))
