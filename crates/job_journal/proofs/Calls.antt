-- A call of the keeper that fails.
use Rattle.std.proofs.Common.{◌≡◌, ℕ, ◌≤◌, Result, Err, subst, arith}
use Rattle.std.specs.Prelude.{OnErr}
use Rattle.mt_edge.specs.Causes.{Rose}

pub one_rose : (before now : ℕ) → Rose before now → 1 ≤ now
one_rose before now h = omega (arith, h)

pub err_is : {T E : Type 0} {P : Type 0} (r : Result T E) (e : E) → r ≡ Err e → OnErr r P → P
err_is {T} {E} {P} r e is h = subst (λ (x : Result T E). OnErr x P) is h
