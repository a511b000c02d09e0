use Rattle.std.proofs.Common.{◌≡◌, Some, sym, subst, rules}
use Rattle.std.specs.Prelude.{nat_eq}
use Rattle.std.specs.HashMap.{get}
use Rattle.type_verifier.specs.Pool.{NearIs}
use Rattle.type_verifier.specs.PoolTexts.{pool_in}
use Rattle.type_verifier.proofs.Kept.{one_kept}
use Rattle.type_verifier.proofs.meanings.near_by_text.Goals as goal

pub returns-in-Some-clause-near : goal.returns-in-Some-clause-near
returns-in-Some-clause-near c =
    let there : get nat_eq c.args.kept.now c.args.text ≡ Some c.in-Some.near.now = search rules in
    subst (λ n. NearIs c.args.own.now n c.in-Some.near.now) (sym c.requires.text) (c.requires.kept c.args.text c.in-Some.near.now there)

pub returns-clause-kept : goal.returns-clause-kept
returns-clause-kept c =
    let o = c.args.own.now in
    one_kept (NearIs o) (pool_in o.body.now) c.args.kept.now c.insert.new.self c.args.text c.is_near-near.result c.in_ok-insert.ensures.updates.0 c.requires.kept
    (subst (λ n. NearIs o n c.is_near-near.result) c.requires.text c.is_near-near.ensures)
