use Rattle.std.proofs.Common.{◌≡◌, ◌+◌, ◌<◌, ◌^◌}
use Rattle.std.specs.Prelude.{sum_by}
use Rattle.std.specs.Io.Iter.{u64_saturate}
use Rattle.std.specs.BTreeMap.{btree_map_len}
use Rattle.mutator_ops.proofs.program.sum_of.Given as goal

abbrev pub invariant-loop-count : goal.invariant-loop-count
invariant-loop-count l = record {
  told : u64_saturate (l.sum + sum_by (λ e. e.1) l.counts.entries) ≡ u64_saturate (sum_by (λ e. e.1) l.fn.counts.entries);
  fits : l.sum < 2 ^ 64;
}

abbrev pub decreases-loop-count : goal.decreases-loop-count
decreases-loop-count l = btree_map_len l.counts
