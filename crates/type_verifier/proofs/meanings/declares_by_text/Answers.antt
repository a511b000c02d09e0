use Rattle.std.proofs.Common.{◌≡◌, ◌∙◌, Some, cond, sym, ap, rules, map}
use Rattle.std.specs.BTreeMap.{get}
use Rattle.class_link.specs.Symbols.{text_named}
use Rattle.class_link.specs.View.{field_of}
use Rattle.type_rules.specs.Rows.{declares}
use Rattle.type_verifier.specs.PoolTexts.{pool_in}
use Rattle.type_verifier.specs.Meanings.{DeclaresIs}
use Rattle.type_verifier.specs.Pairs.{pair_cmp}
use Rattle.type_verifier.proofs.Kept.{one_pair_kept}
use Rattle.type_verifier.proofs.Ties.{pair_ties}
use Rattle.type_verifier.proofs.meanings.declares_by_text.Goals as goal

pub returns-in-Some-clause-declares : goal.returns-in-Some-clause-declares
returns-in-Some-clause-declares c =
    let there : get pair_cmp c.args.kept.now c.args.pair ≡ Some c.in-Some.declared.now = search rules in
    let fields = map field_of c.args.own.now.linked.now.fields in
    ap (λ n. declares n c.args.r.now.desc fields) c.requires.pair.name
    ∙ ap (λ d. declares (text_named (pool_in c.args.own.now.body.now) c.args.pair.0) d fields) c.requires.pair.desc
    ∙ c.requires.kept c.args.pair c.in-Some.declared.now there

pub returns-clause-kept : goal.returns-clause-kept
returns-clause-kept c =
    let o = c.args.own.now in
    let fields = map field_of o.linked.now.fields in
    one_pair_kept (DeclaresIs o) (pool_in o.body.now) c.args.kept.now c.insert.new.self c.args.pair c.declares-declared.result
    (λ q. c.in_ok-insert.ensures.updates.0 q ∙ ap (λ b. cond b (Some c.declares-declared.result) (get pair_cmp c.args.kept.now q)) (sym (pair_ties c.args.pair q)))
    c.requires.kept
    (ap (λ n. declares n (text_named (pool_in o.body.now) c.args.pair.1) fields) (sym c.requires.pair.name)
    ∙ ap (λ d. declares c.args.r.now.name d fields) (sym c.requires.pair.desc)
    ∙ ap (λ fs. declares c.args.r.now.name c.args.r.now.desc (map field_of fs)) (sym c.as_slice.ensures)
    ∙ sym c.declares-declared.ensures)

pub returns-clause-declares : goal.returns-clause-declares
returns-clause-declares c =
    ap (λ fs. declares c.args.r.now.name c.args.r.now.desc (map field_of fs)) (sym c.as_slice.ensures) ∙ sym c.declares-declared.ensures
