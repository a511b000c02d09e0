use Rattle.std.proofs.Common.{◌≡◌, ◌+◌, ◌≤◌, ◌^◌, ◌-◌, length}
use Rattle.std.specs.Io.Iter.{u64_saturate}
use Rattle.std.specs.List.{flat_map}
use Rattle.std.specs.BTreeMap.{btree_map_len}
use Rattle.test_discovery.specs.Listed.{files_of}
use Rattle.test_discovery.specs.Rules.{first_fault, class_fault}
use Rattle.test_discovery.specs.Scripts.{tests_of}
use Rattle.test_discovery.specs.Discovery.{risings}
use Rattle.test_discovery.proofs.count.count_named.Given as goal

abbrev pub invariant-loop-name : goal.invariant-loop-name
invariant-loop-name l =
    (u64_saturate (l.count + length (flat_map tests_of (risings (length l.program) (files_of l.program) l.names.entries))) ≡ u64_saturate (length (flat_map tests_of (risings (length l.program) (files_of l.program) l.fn.names.entries))))
    × (first_fault class_fault (risings (length l.program) (files_of l.program) l.names.entries) ≡ first_fault class_fault (risings (length l.program) (files_of l.program) l.fn.names.entries))
    × (l.count ≤ 2 ^ 64 - 1)

abbrev pub decreases-loop-name : goal.decreases-loop-name
decreases-loop-name l = btree_map_len l.names
