use Rattle.std.proofs.Common.{◌≡◌, drop, map}
use Rattle.std.specs.Prelude.{is_none}
use Rattle.std.specs.List.{list_any}
use Rattle.std.specs.Arc.{arc_value}
use Rattle.class_table.specs.Table.{look}
use Rattle.class_table.proofs.supers.is_any_absent.Given as goal

abbrev pub invariant-loop-name : goal.invariant-loop-name
invariant-loop-name l = list_any (λ m. is_none (look (map (λ i. arc_value i) l.infos) m)) l.names ≡ list_any (λ m. is_none (look (map (λ i. arc_value i) l.infos) m)) (drop l.name-index l.names)
