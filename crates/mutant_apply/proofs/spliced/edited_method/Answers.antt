use Rattle.std.proofs.Common.{◌≡◌, ◌∙◌, sym, ap, subst, rules, ℕ, List, Some, Result}
use Rattle.std.specs.Prelude.{slice_get}
use Rattle.class_model.specs.declared.fault.LayoutFault.{LayoutFault}
use Rattle.class_model.specs.declared.fault.LayoutFault.TheVariants as layout_fault
use Rattle.codec_rules.specs.Meets.{Gives}
use Rattle.mutant_apply.specs.Places.{pool_end, places_of}
use Rattle.mutant_apply.specs.Spliced.{AreOrdered, spliced_layout}
use Rattle.mutant_apply.specs.declared.places.Places.{Places}
use Rattle.mutant_apply.proofs.SplicedMembers.{attrs_form}
use Rattle.mutant_apply.proofs.Splices.{ordered_places, layout_spliced}
use Rattle.mutant_apply.proofs.spliced.edited_method.Goals as goal

pub splice_parts-requires-clause-places : goal.splice_parts-requires-clause-places
splice_parts-requires-clause-places c =
    let class = c.args.class.now in
    let edit = c.args.edit.now in
    let placed : slice_get c.args.places.now.methods edit.method ≡ Some c.in-Some.place.now = search rules in
    let there = ap (λ (p : Places). slice_get p.methods edit.method) (sym c.requires.places) ∙ placed in
    subst (λ (p : Places). AreOrdered p.pool_end c.in-Some.place.now c.args.bytes.now) (sym c.requires.places)
    (ordered_places class c.args.bytes.now edit c.args.parts.now c.args.member.now c.in-Some.place.now c.requires.bytes c.requires.method there)

pub splice_parts-requires-clause-form : goal.splice_parts-requires-clause-form
splice_parts-requires-clause-form c = attrs_form c.args.class.now c.args.edit.now c.args.parts.now c.args.member.now c.requires.method c.requires.form

pub returns : goal.returns
returns c =
    let class = c.args.class.now in
    let edit = c.args.edit.now in
    let placed : slice_get c.args.places.now.methods edit.method ≡ Some c.in-Some.place.now = search rules in
    let there = ap (λ (p : Places). slice_get p.methods edit.method) (sym c.requires.places) ∙ placed in
    let ends = ap (λ (p : Places). p.pool_end) c.requires.places in
    let law = layout_spliced class c.args.bytes.now edit c.args.parts.now c.args.member.now c.in-Some.place.now c.requires.bytes c.requires.method there in
    let is = law ∙ ap (λ (n : ℕ). spliced_layout n c.in-Some.place.now c.args.bytes.now class.pool c.args.parts.now c.args.member.now) (sym ends) in
    subst (λ (l : Result (List ℕ) LayoutFault). Gives layout_fault.Memory (λ bytes. bytes) l c.splice_parts.result) (sym is) c.splice_parts.ensures
