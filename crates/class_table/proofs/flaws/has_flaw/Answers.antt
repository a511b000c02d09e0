use Rattle.std.proofs.Common.{◌≡◌, ◌∙◌, sym, ap, map, Some, slice_get, subst}
use Rattle.std.specs.Prelude.{not}
use Rattle.std.specs.Arc.{arc_value}
use Rattle.std.specs.Option.{option_map}
use Rattle.std.proofs.lemmas.Option.{slice_get-map}
use Rattle.class_table.specs.Table.{names}
use Rattle.class_table.specs.Numbers.{is_place}
use Rattle.class_table.specs.Flaws.{marks_of}
use Rattle.class_table.specs.Supers.{misses, names_wrong}
use Rattle.class_table.proofs.Duplicates.{repeated_here}
use Rattle.class_table.proofs.flaws.has_flaw.Goals as goal

pub returns-in-RepeatsName : goal.returns-in-RepeatsName
returns-in-RepeatsName c =
    let p = map (λ i. arc_value i) c.args.infos.now in
    let m = c.name.result.now in
    let at : slice_get (names p) c.args.at ≡ Some m = slice_get-map (λ i. i.name) p c.args.at ∙ ap (option_map (λ i. i.name)) c.requires.class ∙ ap Some (sym c.name.ensures.value) in
    subst (λ f. slice_get (marks_of f p c.args.found.now) c.args.at ≡ Some (not c.is_place.result)) (sym c.in-RepeatsName.is) (repeated_here (names p) c.args.at m at ∙ ap (λ b. Some (not b)) (sym (c.is_place.ensures ∙ ap (λ o. is_place o c.args.at) (c.requires.numbers m))))

pub returns-in-MissesSuper : goal.returns-in-MissesSuper
returns-in-MissesSuper c =
    let p = map (λ i. arc_value i) c.args.infos.now in
    subst (λ f. slice_get (marks_of f p c.args.found.now) c.args.at ≡ Some c.misses.result) (sym c.in-MissesSuper.is) (slice_get-map (misses p) p c.args.at ∙ ap (option_map (misses p)) c.requires.class ∙ ap Some (sym c.misses.ensures))

pub returns-in-NamesWrongKind : goal.returns-in-NamesWrongKind
returns-in-NamesWrongKind c =
    let p = map (λ i. arc_value i) c.args.infos.now in
    subst (λ f. slice_get (marks_of f p c.args.found.now) c.args.at ≡ Some c.names_wrong.result) (sym c.in-NamesWrongKind.is) (slice_get-map (names_wrong p) p c.args.at ∙ ap (option_map (names_wrong p)) c.requires.class ∙ ap Some (sym c.names_wrong.ensures))
