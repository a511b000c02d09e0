use Rattle.std.proofs.Common.{rules, ◌≡◌, ◌∙◌, sym, subst, Some, IsSomeAnd}
use Rattle.jvm_unwind.specs.Rows.{catch_name}
use Rattle.jvm_unwind.proofs.Worlds.{expected_is, none_expected}
use Rattle.jvm_unwind.proofs.leaving.awaited.Goals as goal

pub returns-in_ok-catch-in-Some : goal.returns-in_ok-catch-in-Some
returns-in_ok-catch-in-Some c =
    let p = c.args.p.now in
    let w = c.args.world.now in
    let k = c.in_ok-catch-in-Some.catch in
    let there : IsSomeAnd w.expected (λ n. catch_name p k ≡ Some n) = search rules in (
      c.in_ok-catch-in-Some.ensures.right,
      λ v m. (
        c.is_awaited.ensures v m ∙ c.if-not-is_awaited.false,
        subst (λ o. IsSomeAnd o (λ n. catch_name p k ≡ Some n)) (sym (expected_is p w v m)) there,
      ),
    )

pub returns-in-None : goal.returns-in-None
returns-in-None c v m = none_expected c.args.p.now c.args.world.now v c.in-None.is m
