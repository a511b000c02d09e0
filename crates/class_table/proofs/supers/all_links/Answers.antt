use Rattle.std.proofs.Common.{◌≡◌, ◌∙◌, sym, ap, refl, map, length, Some, slice_get, subst, ◌+◌}
use Rattle.std.specs.Arc.{arc_value}
use Rattle.std.specs.Option.{option_map}
use Rattle.std.proofs.lemmas.Option.{slice_get_read, slice_get-map}
use Rattle.class_table.specs.Supers.{AreLinked, IsLinked}
use Rattle.class_table.proofs.Verdicts.{linked_next}
use Rattle.class_table.proofs.supers.all_links.Goals as goal

pub loop-info-preserved : goal.loop-info-preserved
loop-info-preserved c =
    let p = map (λ i. arc_value i) c.args.infos.now in
    let there = slice_get_read c.args.infos.now (length c.args.infos.now) c.loop-info.info-index c.info-item.result refl c.loop-info-test.true c.info-item.is in
    let at : slice_get p c.loop-info.info-index ≡ Some (arc_value c.info-item.result) = slice_get-map (λ i. arc_value i) c.args.infos.now c.loop-info.info-index ∙ ap (option_map (λ i. arc_value i)) there in
    let linked : IsLinked p (arc_value c.info-item.result) c.in_ok-links_of.field-0 = subst (λ i. IsLinked p i c.in_ok-links_of.field-0) c.deref.ensures c.in_ok-links_of.ensures in
    subst (AreLinked p (c.loop-info.info-index + 1)) (sym c.in_ok-push.ensures.items) (linked_next p c.loop-info.info-index c.loop-info.all.items (arc_value c.info-item.result) c.in_ok-links_of.field-0 at linked c.loop-info.invariant)
