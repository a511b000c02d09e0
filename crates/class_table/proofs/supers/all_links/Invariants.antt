use Rattle.std.proofs.Common.{map}
use Rattle.std.specs.Arc.{arc_value}
use Rattle.class_table.specs.Supers.{AreLinked}
use Rattle.class_table.proofs.supers.all_links.Given as goal

abbrev pub invariant-loop-info : goal.invariant-loop-info
invariant-loop-info l = AreLinked (map (λ i. arc_value i) l.infos) l.info-index l.all.items
