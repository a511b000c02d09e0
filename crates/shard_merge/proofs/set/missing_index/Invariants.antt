use Rattle.std.proofs.Common.{◌≡◌, None}
use Rattle.std.specs.Prelude.{find, not}
use Rattle.std.specs.List.{range_with_len}
use Rattle.shard_rules.specs.Sets.{has_index}
use Rattle.shard_merge.proofs.set.missing_index.Given as goal

abbrev pub invariant-loop-before : goal.invariant-loop-before
invariant-loop-before l = find (λ i. not (has_index l.heads i)) (range_with_len 1 l.before) ≡ None
