use Rattle.std.proofs.Common.{◌≡◌, ◌∙◌, Some, sym, ap, rules}
use Rattle.std.specs.Prelude.{nat_eq}
use Rattle.std.specs.HashMap.{get}
use Rattle.type_rules.specs.Frames.{type_of as type_of_kind}
use Rattle.type_verifier.specs.PoolTexts.{pool_in}
use Rattle.type_verifier.specs.Meanings.{FieldUseIs}
use Rattle.type_verifier.proofs.Kept.{fields_more, one_kept}
use Rattle.type_verifier.proofs.meanings.field_by_text.Goals as goal

pub returns-in-Some-clause-field : goal.returns-in-Some-clause-field
returns-in-Some-clause-field c = λ more.
    let there : get nat_eq c.args.kept.now c.args.text ≡ Some c.in-Some.held.now = search rules in
    c.requires.kept c.args.text c.in-Some.held.now there more ∙ ap type_of_kind (sym c.requires.text)

pub returns-clause-kept : goal.returns-clause-kept
returns-clause-kept c =
    let o = c.args.own.now in
    let ns = c.kind_type.new.names.list.items in
    one_kept (FieldUseIs ns) (pool_in o.body.now) c.args.kept.now c.insert.new.self c.args.text c.in_ok-held.held c.in_ok-insert.ensures.updates.0
    (fields_more c.args.names.now.list.items ns o c.in_ok-held.ensures.adds.more c.args.kept.now c.requires.kept)
    (λ more. c.in_ok-held.ensures.type_ more ∙ ap type_of_kind c.requires.text)
