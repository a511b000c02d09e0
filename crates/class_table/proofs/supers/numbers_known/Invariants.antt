use Rattle.std.proofs.Common.{◌≡◌, map, take}
use Rattle.std.specs.Arc.{arc_value}
use Rattle.class_table.specs.Supers.{numbers_known}
use Rattle.class_table.proofs.supers.numbers_known.Given as goal

abbrev pub invariant-loop-name : goal.invariant-loop-name
invariant-loop-name l = l.known.items ≡ numbers_known (map (λ i. arc_value i) l.infos) (take l.name-index l.names)
