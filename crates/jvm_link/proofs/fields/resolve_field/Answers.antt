use Rattle.std.proofs.Common.{◌≡◌, ◌<◌, ℕ, Some, List, length, slice_get, sym, subst}
use Rattle.program_rules.specs.Resolution.{search_field}
use Rattle.jvm_link.specs.Sites.{nodes_at, AnswersField}
use Rattle.jvm_link.proofs.Found.{resolves}
use Rattle.jvm_link.proofs.fields.resolve_field.Goals as goal

pub search_field-requires : goal.search_field-requires
search_field-requires c = subst (λ (l : List ℕ). (k b : ℕ) → slice_get l k ≡ Some b → b < length c.args.program.now) (sym c.classes.ensures) c.in_ok-searching.ensures.within

pub returns : goal.returns
returns c =
    let p = c.args.program.now in
    let found = subst (λ (l : List ℕ). AnswersField p (λ rising. search_field rising c.args.name.now c.args.desc.now (nodes_at p l)) c.search_field.result) c.classes.ensures c.search_field.ensures in
    resolves p c.len-len.ensures.form c.args.id.0 c.args.name.now c.args.desc.now _ c.in_ok-searching.ensures c.search_field.result found
