use Rattle.std.proofs.Common.{◌≡◌, ◌∙◌, refl, None, Some, rules}
use Rattle.suite_workers.proofs.Standings.{base_none, base_some, is_bare, may_put_back}
use Rattle.suite_workers.proofs.standing.put_back.Goals as goal

pub returns-in_default : goal.returns-in_default
returns-in_default c =
    let is : c.args.stand.now.standing ≡ None = search rules in
    let none : c.take.new.self ≡ None = search rules in
    is_bare c.args.history.now c.args.mutants.now c.args.stand.now _ c.requires (base_none c.args.stand.now is) none refl refl

pub swap-edited-requires : goal.swap-edited-requires
swap-edited-requires c =
    let is : c.args.stand.now.standing ≡ Some c.in-Some.standing = search rules in
    may_put_back c.args.history.now c.args.mutants.now c.args.stand.now c.in-Some.standing c.requires is

pub returns : goal.returns
returns c =
    let is : c.args.stand.now.standing ≡ Some c.in-Some.standing = search rules in
    let none : c.take.new.self ≡ None = search rules in
    is_bare c.args.history.now c.args.mutants.now c.args.stand.now _ c.requires (c.swap-edited.ensures.program ∙ base_some c.args.stand.now c.in-Some.standing is) none refl refl
