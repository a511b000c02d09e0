use Rattle.std.proofs.Common.{◌≡◌, ◌∙◌, ◌+◌, sym, ap, refl, map, length, Some, slice_get, subst}
use Rattle.std.specs.Arc.{arc_value}
use Rattle.std.specs.Option.{option_map}
use Rattle.std.proofs.lemmas.Option.{slice_get_read, slice_get-map}
use Rattle.class_table.specs.Table.{names}
use Rattle.class_table.specs.Least.{IsLeastSoFar}
use Rattle.class_table.specs.Flaws.{marks_of}
use Rattle.class_table.proofs.Leasts.{least_next, name_here}
use Rattle.class_table.proofs.least.least_at.Goals as goal

pub has_flaw-is_marked-requires-clause-class : goal.has_flaw-is_marked-requires-clause-class
has_flaw-is_marked-requires-clause-class c =
    let there = slice_get_read c.args.infos.now (length c.args.infos.now) c.loop-i.i c.index-infos-i.result refl c.loop-i-test.true c.index-infos-i.is in
    slice_get-map (λ i. arc_value i) c.args.infos.now c.loop-i.i ∙ ap (option_map (λ i. arc_value i)) there ∙ ap Some (sym c.deref.ensures)

pub loop-i-preserved : goal.loop-i-preserved
loop-i-preserved c =
    let p = map (λ i. arc_value i) c.args.infos.now in
    let marks = marks_of c.args.flaw p c.args.found.now in
    let there = slice_get_read c.args.infos.now (length c.args.infos.now) c.loop-i.i c.index-infos-i.result refl c.loop-i-test.true c.index-infos-i.is in
    let named : c.name.result.now ≡ (arc_value c.index-infos-i.result).name = c.name.ensures.value ∙ ap (λ v. v.name) c.deref-in-loop-i.ensures in
    let at : slice_get (names p) c.loop-i.i ≡ Some c.name.result.now = name_here (λ i. arc_value i) c.args.infos.now c.loop-i.i c.index-infos-i.result there ∙ ap Some (sym named) in
    subst (IsLeastSoFar (names p) marks (c.loop-i.i + 1)) (sym c.in_ok-least.ensures) (least_next (names p) marks c.loop-i.i c.name.result.now at c.loop-i.least c.has_flaw-is_marked.result c.has_flaw-is_marked.ensures c.loop-i.invariant)
