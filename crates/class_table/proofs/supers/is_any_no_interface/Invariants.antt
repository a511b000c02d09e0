use Rattle.std.proofs.Common.{◌≡◌, drop, map}
use Rattle.std.specs.List.{list_any}
use Rattle.std.specs.Arc.{arc_value}
use Rattle.class_order.specs.Supers.{is_no_interface}
use Rattle.class_table.specs.Table.{look}
use Rattle.class_table.proofs.supers.is_any_no_interface.Given as goal

abbrev pub invariant-loop-name : goal.invariant-loop-name
invariant-loop-name l = list_any (λ m. is_no_interface (look (map (λ i. arc_value i) l.infos) m)) l.names ≡ list_any (λ m. is_no_interface (look (map (λ i. arc_value i) l.infos) m)) (drop l.name-index l.names)
