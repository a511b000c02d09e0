use Rattle.std.proofs.Common.{◌≡◌, List, ℕ, map, take}
use Rattle.std.specs.Arc.{arc_value}
use Rattle.std.specs.BTreeMap.{get}
use Rattle.std.specs.Cmp.Lexicographic.{slice_cmp}
use Rattle.std.specs.Ordering.{nat_cmp}
use Rattle.class_table.specs.Table.{number_of}
use Rattle.class_table.proofs.numbering.numbers.Given as goal

abbrev pub invariant-loop-i : goal.invariant-loop-i
invariant-loop-i l = (n : List ℕ) → get (slice_cmp nat_cmp) l.numbers n ≡ number_of (map (λ i. arc_value i) (take l.i l.infos)) n
