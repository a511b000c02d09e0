-- The methods that lower classes declare, as a set (this project's own). No public clause cites
-- these.
use Rattle.std.specs.Prelude.{◌≡◌, ◌++◌, ◌||◌, Bool, List}
use Rattle.std.specs.declared.cmp.Ordering.{Ordering}
use Rattle.std.specs.Ordering.{nat_cmp, ordering_then}
use Rattle.std.specs.Cmp.Lexicographic.{slice_cmp}
use Rattle.std.specs.List.{list_any}
use Rattle.std.specs.BTreeSet.{BTreeSet, contains}
use Rattle.class_model.specs.declared.class.Class.{Class}
use Rattle.class_model.specs.declared.class.Member.{Member}
use Rattle.class_model.specs.declared.constant.Const.{Const}
use Rattle.program_rules.specs.Names.{Name}
use Rattle.test_discovery.specs.declared.listed.Listed.{Listed}
use Rattle.test_discovery.specs.Listed.{head_of, same_head, listed_at}

-- Methods in the order of their names' units, then of their descriptors'.
abbrev pub head_cmp : Name × Name → Name × Name → Ordering
head_cmp a b = ordering_then (slice_cmp nat_cmp a.0 b.0) (slice_cmp nat_cmp a.1 b.1)

-- The set has a method of this name and descriptor.
abbrev pub has_head : BTreeSet (Name × Name) → Name × Name → Bool
has_head heads head = contains head_cmp heads head

-- The set has these methods beside those that it had.
abbrev pub AddsHeads :
    BTreeSet (Name × Name) → List Const → List Member → BTreeSet (Name × Name) → Type 0
AddsHeads old pool ms new =
    (head : Name × Name)
    → has_head new head
    ≡ (has_head old head || list_any (λ m. same_head (head_of pool m) head) ms)

-- A list got a method of a class behind it, if it is listed where those of the set are hidden.
abbrev pub AddsAt :
    BTreeSet (Name × Name) → Class → Member → List Listed → List Listed → Type 0
AddsAt hidden c m old new = new ≡ old ++ listed_at (has_head hidden) c m
