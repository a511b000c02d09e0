use Rattle.std.proofs.Common.{◌++◌, ◌∙◌, ap, subst}
use Rattle.type_verifier.specs.Heads.{if_any}
use Rattle.type_verifier.specs.Tables.{KindsLast}
use Rattle.type_verifier.proofs.Firsts.{first_made}
use Rattle.type_verifier.proofs.Lasting.{name_lasts}
use Rattle.type_verifier.proofs.first.first_types.Goals as goal

pub returns-clause-types : goal.returns-clause-types
returns-clause-types c =
    let table = c.kind_types.new.names in
    let ns = table.list.items in
    let args = c.in_ok-args.args.items in
    let this = c.receiver-this.result in
    let name = name_lasts c.args.program.now c.args.names.now table c.args.class c.args.name.now c.in_ok-args.ensures.adds c.requires.class in
    let kinds = subst (KindsLast ns args) (c.as_slice.ensures ∙ c.deref.ensures) c.in_ok-args.ensures.types in
    first_made ns c.args.name.now c.args.class c.args.method.now this args c.add_all.new.types.items name c.receiver-this.ensures kinds
    (c.in_ok-add_all.ensures ∙ ap (λ l. l ++ c.deref-2.result.now) c.in_ok-first.ensures ∙ ap (λ l. if_any this ++ l) c.deref-2.ensures.value)
