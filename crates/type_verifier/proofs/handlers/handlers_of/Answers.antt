use Rattle.std.proofs.Common.{◌≡◌, ◌∙◌, ap, ◌+◌, ◌∷◌, ◌++◌, [], take, map, arith}
use Rattle.std.proofs.lemmas.Grind.{common_steps}
use Rattle.type_rules.specs.References.{classes_of}
use Rattle.class_link.specs.View.{row_of}
use Rattle.class_table.specs.Table.{look}
use Rattle.type_verifier.proofs.Lasting.{same_table, added_twice}
use Rattle.type_verifier.specs.Handlers.{caught_in, caught_of}
use Rattle.type_verifier.proofs.Naming.{one_row}
use Rattle.type_verifier.proofs.handlers.handlers_of.Goals as goal

pub loop-row-init : goal.loop-row-init
loop-row-init c = (same_table c.args.program.now c.args.names.now c.requires, λ more. ap (map (caught_in (c.args.names.now.list.items ++ more))) c.in_ok-handlers.ensures.items)

pub loop-row-preserved : goal.loop-row-preserved
loop-row-preserved c =
    let at = c.loop-row.row-index in
    let items = c.args.rows.now in
    let x = c.row-item.result in
    let p = c.args.program.now in
    let taken : take (at + 1) items ≡ take at items ++ x ∷ [] = grind (arith, common_steps) in (
      added_twice p c.args.names.now c.loop-row.names c.handler_of.new.names c.loop-row.invariant.0 c.in_ok-handler.ensures.adds,
      one_row p c.loop-row.names c.handler_of.new.names c.loop-row.handlers.items c.push.new.self.items (take at items) (take (at + 1) items) c.in_ok-handler.handler x
          c.in_ok-handler.ensures.adds c.loop-row.invariant.1 c.in_ok-handler.ensures.row c.in_ok-push.ensures.items taken,
    )

pub returns-clause-rows : goal.returns-clause-rows
returns-clause-rows c = λ more.
    let whole : take c.loop-row.row-index c.args.rows.now ≡ c.args.rows.now = grind (arith, common_steps, c.loop-row-test.false) in
    c.loop-row.invariant.1 more ∙ ap (λ rs. map (caught_of (classes_of (look c.args.program.now))) (map row_of rs)) whole
