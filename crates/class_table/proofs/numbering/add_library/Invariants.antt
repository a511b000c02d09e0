use Rattle.std.proofs.Common.{◌≡◌, ◌++◌, map}
use Rattle.std.specs.Arc.{arc_value}
use Rattle.std.specs.Vec.Iter.{into_iter_items}
use Rattle.class_link.specs.declared.loaded.ClassBody.TheVariants.{Library}
use Rattle.class_link.specs.Info.{body_name}
use Rattle.class_table.specs.Adding.{KeepsMeant}
use Rattle.class_table.specs.Table.{bodies, names}
use Rattle.class_table.proofs.numbering.add_library.Given as goal

abbrev pub invariant-loop-class : goal.invariant-loop-class
invariant-loop-class l =
    (bodies (map (λ i. arc_value i) l.infos.items) ++ map Library (into_iter_items l.class-iterator) ≡ bodies (map (λ i. arc_value i) l.initial.infos.items) ++ map Library l.fn.library.items)
    × (names (map (λ i. arc_value i) l.infos.items) ++ map body_name (map Library (into_iter_items l.class-iterator)) ≡ names (map (λ i. arc_value i) l.initial.infos.items) ++ map body_name (map Library l.fn.library.items))
    × KeepsMeant l.initial.infos.items l.infos.items
