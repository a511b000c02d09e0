use Rattle.std.proofs.Common.{◌≡◌, Some, sym, subst, rules}
use Rattle.std.specs.Prelude.{nat_eq}
use Rattle.std.specs.HashMap.{get}
use Rattle.type_verifier.specs.PoolTexts.{pool_in}
use Rattle.type_verifier.specs.Meanings.{ClassUseIs}
use Rattle.type_verifier.proofs.Lasting.{same_table}
use Rattle.type_verifier.proofs.Kept.{classes_more, one_kept}
use Rattle.type_verifier.proofs.meanings.class_by_text.Goals as goal

pub returns-in-Some-clause-adds : goal.returns-in-Some-clause-adds
returns-in-Some-clause-adds c = same_table c.args.own.now.program.now c.args.names.now c.requires.table

pub returns-in-Some-clause-class : goal.returns-in-Some-clause-class
returns-in-Some-clause-class c =
    let there : get nat_eq c.args.kept.now c.args.text ≡ Some c.in-Some.class.now = search rules in
    subst (λ n. ClassUseIs c.args.names.now.list.items c.args.own.now n c.in-Some.class.now) (sym c.requires.text) (c.requires.kept c.args.text c.in-Some.class.now there)

pub returns-clause-kept : goal.returns-clause-kept
returns-clause-kept c =
    let o = c.args.own.now in
    let ns = c.class_use.new.names.list.items in
    one_kept (ClassUseIs ns o) (pool_in o.body.now) c.args.kept.now c.insert.new.self c.args.text c.in_ok-class.class c.in_ok-insert.ensures.updates.0
    (classes_more c.args.names.now.list.items ns o c.in_ok-class.ensures.adds.more c.args.kept.now c.requires.kept)
    (subst (λ n. ClassUseIs ns o n c.in_ok-class.class) c.requires.text c.in_ok-class.ensures.class)
