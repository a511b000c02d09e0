use Rattle.std.proofs.Common.{◌≡◌, ◌++◌}
use Rattle.std.specs.List.{flat_map}
use Rattle.std.specs.BTreeMap.{btree_map_len}
use Rattle.mutator_ops.proofs.program.joined.Given as goal

abbrev pub invariant-loop-list : goal.invariant-loop-list
invariant-loop-list l = l.all.items ++ flat_map (λ e. e.1) l.by_name.entries ≡ flat_map (λ e. e.1) l.fn.by_name.entries

abbrev pub decreases-loop-list : goal.decreases-loop-list
decreases-loop-list l = btree_map_len l.by_name
