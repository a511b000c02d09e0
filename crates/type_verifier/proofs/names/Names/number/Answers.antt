use Rattle.std.proofs.Common.{◌≡◌, ◌∙◌, sym, ap, subst}
use Rattle.type_verifier.specs.Tables.{Leads}
use Rattle.type_verifier.proofs.Lasting.{added_twice, ends_before, last_component, all_before, all_last}
use Rattle.type_verifier.proofs.names.Names.number.Goals as goal

pub add-requires-clause-component : goal.add-requires-clause-component
add-requires-clause-component c =
    last_component c.loop-named.self.list.items c.args.name.now c.loop-named.chain.items c.pop.new.self.items c.in-Some.named c.loop-named.number c.loop-named.invariant.2 c.in-Some.ensures.items

pub loop-named-preserved : goal.loop-named-preserved
loop-named-preserved c =
    let p = c.args.program.now in
    let e = c.loop-named.invariant.2 in (
      added_twice p c.args.self.now c.loop-named.self c.add.new.self c.loop-named.invariant.0 c.in_ok-number-2.ensures.adds,
      all_before p c.loop-named.chain.items c.pop.new.self.items c.in-Some.named c.in-Some.ensures.items c.loop-named.invariant.1,
      ends_before c.loop-named.self.list.items c.add.new.self.list.items c.args.name.now c.pop.new.self.items c.in-Some.named c.in_ok-number-2.number e.end
          (subst (λ l. Leads c.args.name.now l e.end) c.in-Some.ensures.items e.leads) c.in_ok-number-2.ensures.number,
    )
