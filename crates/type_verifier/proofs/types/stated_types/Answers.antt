use Rattle.std.proofs.Common.{◌≡◌, ◌∙◌, sym, ap, subst, ◌+◌, ◌∷◌, ◌++◌, [], List, take, map, arith}
use Rattle.std.proofs.lemmas.Grind.{common_steps}
use Rattle.class_link.specs.View.{vtype_of}
use Rattle.vframes.specs.declared.named.Named.{Named}
use Rattle.vframes.specs.View.{type_of, types_in}
use Rattle.type_verifier.specs.Tables.{Adds, TypesLast}
use Rattle.type_verifier.proofs.Lasting.{same_table, added_twice, lasts, one_more}
use Rattle.type_verifier.proofs.types.stated_types.Goals as goal

pub loop-item-init : goal.loop-item-init
loop-item-init c = (same_table c.args.program.now c.args.names.now c.requires, λ more. ap (types_in (c.args.names.now.list.items ++ more)) c.in_ok-types.ensures.items)

pub loop-item-preserved : goal.loop-item-preserved
loop-item-preserved c =
    let at = c.loop-item.item-index in
    let items = c.args.stated.now in
    let x = c.item-item.result in
    let old = c.loop-item.names in
    let new = c.stated_type.new.names in
    let taken : take (at + 1) items ≡ take at items ++ x ∷ [] = grind (arith, common_steps) in
    let pushed : c.push.new.self.items ≡ c.loop-item.types.items ++ c.in_ok-t.t ∷ [] = c.in_ok-push.ensures.items in (
      added_twice c.args.program.now c.args.names.now old new c.loop-item.invariant.0 c.in_ok-t.ensures.adds,
      λ more.
          one_more (type_of (new.list.items ++ more)) vtype_of c.loop-item.types.items (take at items) c.in_ok-t.t x c.push.new.self.items (take (at + 1) items) pushed taken
          (lasts (λ ns. types_in ns c.loop-item.types.items ≡ map vtype_of (take at items)) old.list.items new.list.items c.in_ok-t.ensures.adds.more c.loop-item.invariant.1 more)
          (c.in_ok-t.ensures.type_ more),
    )

pub returns-clause-types : goal.returns-clause-types
returns-clause-types c = λ more.
    let whole : take c.loop-item.item-index c.args.stated.now ≡ c.args.stated.now = grind (arith, common_steps, c.loop-item-test.false) in
    c.loop-item.invariant.1 more ∙ ap (map vtype_of) whole
