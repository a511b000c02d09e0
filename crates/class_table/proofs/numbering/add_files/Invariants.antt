use Rattle.std.proofs.Common.{◌≡◌, ◌++◌, map}
use Rattle.std.specs.Arc.{arc_value}
use Rattle.std.specs.Vec.Iter.{into_iter_items}
use Rattle.class_link.specs.declared.loaded.ClassBody.TheVariants.{File}
use Rattle.class_link.specs.Info.{body_name}
use Rattle.class_table.specs.Adding.{KeepsMeant}
use Rattle.class_table.specs.Table.{bodies, names}
use Rattle.class_table.proofs.numbering.add_files.Given as goal

abbrev pub invariant-loop-loaded : goal.invariant-loop-loaded
invariant-loop-loaded l =
    (bodies (map (λ i. arc_value i) l.infos.items) ++ map File (into_iter_items l.loaded-iterator) ≡ bodies (map (λ i. arc_value i) l.initial.infos.items) ++ map File l.fn.classes.items)
    × (names (map (λ i. arc_value i) l.infos.items) ++ map body_name (map File (into_iter_items l.loaded-iterator)) ≡ names (map (λ i. arc_value i) l.initial.infos.items) ++ map body_name (map File l.fn.classes.items))
    × KeepsMeant l.initial.infos.items l.infos.items
