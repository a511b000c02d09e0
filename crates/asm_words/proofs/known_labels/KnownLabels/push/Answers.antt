use Rattle.std.proofs.Common.{◌≡◌, true, None, rules}
use Rattle.std.specs.Prelude.{is_some}
use Rattle.std.specs.BTreeMap.{get}
use Rattle.asm_words.specs.LabelPlaces.{by_units}
use Rattle.asm_words.proofs.LabelLaws.{stays, placed}
use Rattle.asm_words.proofs.known_labels.KnownLabels.push.Goals as goal

pub invariant_of-self-then-contains_key : goal.invariant_of-self-then-contains_key
invariant_of-self-then-contains_key c =
    let known : is_some (get by_units c.self.inside.places c.args.label.name) ≡ true = search rules in
    search (rules, stays c.self.inside.places c.self.inside.labels.items c.args.label c.self.invariant known)

pub invariant_of-self-else-is_err : goal.invariant_of-self-else-is_err
invariant_of-self-else-is_err c =
    let absent : get by_units c.self.inside.places c.args.label.name ≡ None = search rules in
    search (rules, placed c.self.inside.places c.insert.new.self c.self.inside.labels.items c.args.label c.in_ok-name.name c.len-place.result c.self.invariant absent)
