use Rattle.std.proofs.Common.{◌≡◌, ◌<◌, ◌∙◌, sym, ap, subst, true, [], ◌∷◌, ◌++◌, length, All, arith}
use Rattle.std.proofs.lemmas.Grind.{common_steps}
use Rattle.std.proofs.lemmas.List.Elements.{All-nil, All-cons, All-append}
use Rattle.type_rules.specs.References.{dimensions, base_of, component_of}
use Rattle.type_rules.specs.Rows.{is_of_references}
use Rattle.vframes.specs.Named.{IsNamed}
use Rattle.type_verifier.specs.Tables.{Leads, NameLasts}
use Rattle.type_verifier.proofs.Lasting.{added_twice, same_table, ends_now, component_shorter, leads_on}
use Rattle.type_verifier.proofs.names.Names.end_of.Goals as goal

pub find-requires : goal.find-requires
find-requires c = c.loop-number.invariant.0.table

pub push-requires-clause-table : goal.push-requires-clause-table
push-requires-clause-table c = c.loop-number.invariant.0.table

pub loop-number-smaller : goal.loop-number-smaller
loop-number-smaller c =
    let r : is_of_references (dimensions c.in_ok-named.named.name) (base_of c.in_ok-named.named.name) ≡ true = sym c.holds_references.ensures ∙ c.if-not-holds_references.false in
    let e : c.in_ok-text-2.text ≡ component_of c.in_ok-named.named.name = c.in_ok-text-2.ensures ∙ c.component.ensures ∙ ap component_of c.as_slice.ensures in
    let s : length (component_of c.in_ok-named.named.name) < length c.in_ok-named.named.name = component_shorter c.in_ok-named.named.name r in
    omega (arith, s, ap length e, ap length c.in_ok-named.ensures.name)

pub loop-number-preserved : goal.loop-number-preserved
loop-number-preserved c =
    let x = c.in_ok-named.named in
    let e : c.in_ok-text-2.text ≡ component_of c.loop-number.text = c.in_ok-text-2.ensures ∙ c.component.ensures ∙ ap component_of (c.as_slice.ensures ∙ c.in_ok-named.ensures.name) in
    let pushed : c.push-in-loop-number.new.self.items ≡ c.loop-number.chain.items ++ x ∷ [] = c.in_ok-push.ensures.items in
    let leads = leads_on c.args.name.now c.loop-number.chain.items c.loop-number.text x c.loop-number.invariant.1 c.in_ok-named.ensures.name in (
      c.loop-number.invariant.0,
      subst (λ l. Leads c.args.name.now l c.in_ok-text-2.text) (sym pushed) (subst (Leads c.args.name.now (c.loop-number.chain.items ++ x ∷ [])) (sym e) leads),
      subst (All (IsNamed c.args.program.now)) (sym pushed) (All-append (IsNamed c.args.program.now) c.loop-number.chain.items (x ∷ []) c.loop-number.invariant.2 (All-cons (IsNamed c.args.program.now) x [] c.in_ok-named.ensures.known (All-nil (IsNamed c.args.program.now)))),
    )
