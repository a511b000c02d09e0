use Rattle.std.proofs.Common.{◌≡◌, ◌∙◌, sym, ap, subst, ◌+◌, ◌∷◌, ◌++◌, [], List, take, map, arith}
use Rattle.std.proofs.lemmas.Grind.{common_steps}
use Rattle.type_rules.specs.Frames.{type_of as type_of_kind}
use Rattle.class_link.specs.Symbols.{kind_of}
use Rattle.vframes.specs.declared.named.Named.{Named}
use Rattle.vframes.specs.View.{type_of, types_in}
use Rattle.type_verifier.specs.Tables.{Adds, TypesLast}
use Rattle.type_verifier.proofs.Lasting.{same_table, added_twice, lasts, one_more}
use Rattle.type_verifier.proofs.types.kind_types.Goals as goal

pub loop-kind-init : goal.loop-kind-init
loop-kind-init c = (same_table c.args.program.now c.args.names.now c.requires, λ more. ap (types_in (c.args.names.now.list.items ++ more)) c.in_ok-types.ensures.items)

pub loop-kind-preserved : goal.loop-kind-preserved
loop-kind-preserved c =
    let at = c.loop-kind.kind-index in
    let items = c.args.kinds.now in
    let x = c.kind-item.result in
    let old = c.loop-kind.names in
    let new = c.kind_type.new.names in
    let taken : take (at + 1) items ≡ take at items ++ x ∷ [] = grind (arith, common_steps) in
    let pushed : c.push.new.self.items ≡ c.loop-kind.types.items ++ c.in_ok-t.t ∷ [] = c.in_ok-push.ensures.items in (
      added_twice c.args.program.now c.args.names.now old new c.loop-kind.invariant.0 c.in_ok-t.ensures.adds,
      λ more.
          one_more (type_of (new.list.items ++ more)) (λ k. type_of_kind (kind_of k)) c.loop-kind.types.items (take at items) c.in_ok-t.t x c.push.new.self.items (take (at + 1) items) pushed taken
          (lasts (λ ns. types_in ns c.loop-kind.types.items ≡ map (λ k. type_of_kind (kind_of k)) (take at items)) old.list.items new.list.items c.in_ok-t.ensures.adds.more c.loop-kind.invariant.1 more)
          (c.in_ok-t.ensures.type_ more),
    )

pub returns-clause-types : goal.returns-clause-types
returns-clause-types c = λ more.
    let whole : take c.loop-kind.kind-index c.args.kinds.now ≡ c.args.kinds.now = grind (arith, common_steps, c.loop-kind-test.false) in
    c.loop-kind.invariant.1 more ∙ ap (map (λ k. type_of_kind (kind_of k))) whole
