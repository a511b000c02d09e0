use Rattle.std.proofs.Common.{◌≡◌, ◌∙◌, sym, Some, None, slice_get, rules}
use Rattle.std.specs.BTreeMap.{get}
use Rattle.asm_words.specs.LabelPlaces.{by_units}
use Rattle.asm_words.specs.Labels.{first_of}
use Rattle.asm_words.proofs.LabelLaws.{first_at}
use Rattle.asm_words.proofs.known_labels.KnownLabels.first.Goals as goal

pub returns-in_err-place : goal.returns-in_err-place
returns-in_err-place c =
    let absent : get by_units c.self.inside.places c.args.name.now ≡ None = search rules in
    search (rules, first_at c.args.name.now c.self.inside.labels.items None (sym (c.self.invariant c.args.name.now) ∙ absent))

pub returns : goal.returns
returns c =
    let known : get by_units c.self.inside.places c.args.name.now ≡ Some c.in_ok-place.place.now = search rules in
    let at : slice_get c.self.inside.labels.items c.in_ok-place.place.now ≡ first_of c.self.inside.labels.items c.args.name.now = first_at c.args.name.now c.self.inside.labels.items (Some c.in_ok-place.place.now) (sym (c.self.invariant c.args.name.now) ∙ known) in
    search (rules, at)
