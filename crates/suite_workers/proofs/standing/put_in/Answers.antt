use Rattle.std.proofs.Common.{◌≡◌, refl, subst, rules}
use Rattle.std.specs.Arc.{arc_value}
use Rattle.suite_jobs.specs.Below.{IsEditBy}
use Rattle.suite_jobs.specs.Below.{IsKept}
use Rattle.suite_jobs.specs.Below.{Makes}
use Rattle.suite_workers.specs.Standing.{IsSwapOf}
use Rattle.suite_jobs.proofs.Below.{named_made}
use Rattle.suite_jobs.proofs.Below.{makes_swap}
use Rattle.suite_workers.proofs.Standings.{bare_without, on_err, stands_for}
use Rattle.suite_workers.proofs.standing.put_in.Goals as goal

pub returns-in_err-made-clause-err : goal.returns-in_err-made-clause-err
returns-in_err-made-clause-err c =
    let kept : IsKept c.args.stand.now.program c.take-kept.new.self = search rules in
    on_err c.from_residual.result (bare_without c.args.stand.now.program c.args.stand.now _ c.requires.bare refl refl refl kept)

pub returns-in_err-swap-clause-err : goal.returns-in_err-swap-clause-err
returns-in_err-swap-clause-err c = on_err c.from_residual-in_err-swap.result (bare_without c.args.stand.now.program c.args.stand.now _ c.requires.bare refl refl refl c.in_ok-made.ensures.kept)

pub swap-original-requires : goal.swap-original-requires
swap-original-requires c =
    let made : Makes c.args.stand.now.program c.args.mutant.now c.in-Some.id.0 (arc_value c.in-Some.edited) = rw c.in-Some.is at c.in_ok-made.ensures.made in
    makes_swap c.args.stand.now.program c.args.mutant.now c.in-Some.id.0 (arc_value c.in-Some.edited) made

pub renew-requires : goal.renew-requires
renew-requires c =
    let made : Makes c.args.stand.now.program c.args.mutant.now c.in-Some.id.0 (arc_value c.in-Some.edited) = rw c.in-Some.is at c.in_ok-made.ensures.made in
    named_made c.args.stand.now.program c.swap-original.new.self c.args.mutant.now c.in-Some.id.0 (arc_value c.in-Some.edited) made c.swap-original.ensures.program c.args.stand.now.tables c.requires.bare.named

pub returns-clause-placed : goal.returns-clause-placed
returns-clause-placed c =
    let made : Makes c.args.stand.now.program c.args.mutant.now c.in-Some.id.0 (arc_value c.in-Some.edited) = rw c.in-Some.is at c.in_ok-made.ensures.made in
    let edit : IsEditBy c.args.stand.now.program c.args.mutant.now c.in-Some.id.0 (arc_value c.in-Some.edited) = rw c.in-Some.is at c.in_ok-made.ensures.edit in
    let same : c.deref.result.now ≡ arc_value c.in-Some.edited = search rules in
    let swap = subst (λ i. IsSwapOf c.args.history.now c.args.mutant.now.class i c.in_ok-swap.swap) same c.in_ok-swap.ensures in
    stands_for c.args.stand.now.program c.swap-original.new.self c.args.history.now c.args.mutant.now (record { mutant = c.args.number; id = c.in-Some.id; original = c.swap-original.result; swap = c.in_ok-swap.swap }) (arc_value c.in-Some.edited) made edit c.swap-original.ensures.program c.swap-original.ensures.other swap _ c.args.number refl refl refl c.renew.ensures c.in_ok-made.ensures.kept
