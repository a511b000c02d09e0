use Rattle.std.proofs.Common.{◌≡◌, ◌∙◌, sym, ap, subst, arith, ◌+◌, ◌-◌, suc, ◌∷◌, drop, slice_get}
use Rattle.std.specs.Prelude.{IfSome}
use Rattle.jvm_world.proofs.Rests.{first_at, rest_at}
use Rattle.jvm_world.proofs.script.Script.take.Goals as goal

pub returns-clause-running : goal.returns-clause-running
returns-clause-running c =
    let xs = c.self.inside.calls in
    let n = c.self.inside.taken in
    let same : n + 1 - 1 ≡ n = omega arith in
    ap (slice_get xs) same ∙ sym (first_at xs n) ∙ ap (λ s. slice_get s.rest 0) c.self.view_is

pub returns-clause-rest : goal.returns-clause-rest
returns-clause-rest c =
    let xs = c.self.inside.calls in
    let n = c.self.inside.taken in
    let same : n ≡ n + 1 - 1 = omega arith in
    let next : suc n ≡ n + 1 = omega arith in
    let rest : drop n xs ≡ c.args.self.now.rest = ap (λ s. s.rest) c.self.view_is in
    subst (λ k. IfSome (slice_get xs k) (λ x. c.args.self.now.rest ≡ x ∷ drop (n + 1) xs)) same
    (subst (λ r. IfSome (slice_get xs n) (λ x. r ≡ x ∷ drop (n + 1) xs)) rest
    (subst (λ k. IfSome (slice_get xs n) (λ x. drop n xs ≡ x ∷ drop k xs)) next (rest_at xs n)))
