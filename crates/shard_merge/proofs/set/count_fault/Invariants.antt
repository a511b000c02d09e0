use Rattle.std.proofs.Common.{◌≡◌, drop, nat_eq}
use Rattle.std.specs.Prelude.{find, not}
use Rattle.std.specs.List.{enumerate_from}
use Rattle.shard_rules.specs.Sets.{placed}
use Rattle.shard_merge.proofs.set.count_fault.Given as goal

abbrev pub invariant-loop-place : goal.invariant-loop-place
invariant-loop-place l =
    find (λ p. not (nat_eq p.1.of l.first)) (placed l.heads) ≡ find (λ p. not (nat_eq p.1.of l.first)) (enumerate_from l.place (drop l.place l.heads))
