use Rattle.std.proofs.Common.{◌≡◌, drop, take}
use Rattle.std.specs.Prelude.{find}
use Rattle.std.specs.List.{enumerate_from}
use Rattle.shard_rules.specs.Sets.{has_index, placed}
use Rattle.shard_merge.proofs.set.doubled_fault.Given as goal

abbrev pub invariant-loop-place : goal.invariant-loop-place
invariant-loop-place l =
    find (λ p. has_index (take p.0 l.heads) p.1.index) (placed l.heads) ≡ find (λ p. has_index (take p.0 l.heads) p.1.index) (enumerate_from l.place (drop l.place l.heads))
