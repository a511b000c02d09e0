-- Each place has one owner, and what a shard owns goes by places.
use Rattle.std.proofs.Common.{◌≡◌, ◌∙◌, ℕ, suc, ◌+◌, ◌%◌, Bool, true, false, cond, List, [], ◌∷◌, map, refl, sym, ap, arith, mod-lt, nat_eq}
use Rattle.std.specs.Prelude.{filter}
use Rattle.std.specs.List.{enumerate_from}
use Rattle.std.proofs.lemmas.Bool.{eqb-true, eq-eqb}
use Rattle.job_rules.specs.Shards.{owned_from}
use Rattle.shard_rules.specs.Owners.{owner_of, owns}
use Rattle.shard_rules.specs.Laws.{EachHasOneOwner, OwnedGoByPlace}

pub one_owner : EachHasOneOwner
one_owner k n some =
    let within = mod-lt k some in
    record {
      first = omega arith;
      last = omega (arith, within);
      owns_it = eq-eqb (owner_of k n) (owner_of k n) refl;
      alone = λ i own. sym (eqb-true (owner_of k n) i own);
    }

-- numbers from the second one on
abbrev others : {X : Type 0} → ℕ → ℕ → ℕ → List X → List X
others i n k xs = map (λ p. p.1) (filter (λ p. owns p.0 i n) (enumerate_from k xs))

one_more : {X : Type 0} (i n k : ℕ) (b : Bool) (x : X) (xs : List X) → owned_from i n (suc k) xs ≡ others i n (suc k) xs
    → cond b (x ∷ owned_from i n (suc k) xs) (owned_from i n (suc k) xs) ≡ map (λ p. p.1) (cond b ((k, x) ∷ filter (λ p. owns p.0 i n) (enumerate_from (suc k) xs)) (filter (λ p. owns p.0 i n) (enumerate_from (suc k) xs)))
one_more i n k true x xs e = ap (λ ys. x ∷ ys) e
one_more i n k false x xs e = e

from_place : {X : Type 0} (i n k : ℕ) (xs : List X) → owned_from i n k xs ≡ others i n k xs
from_place i n k [] = refl
from_place i n k (x ∷ xs) =
    let next : suc k ≡ k + 1 = omega arith in
    one_more i n k (nat_eq (k % n + 1) i) x xs (from_place i n (suc k) xs)
    ∙ ap (λ (j : ℕ). map (λ p. p.1) (cond (nat_eq (k % n + 1) i) ((k, x) ∷ filter (λ p. owns p.0 i n) (enumerate_from j xs)) (filter (λ p. owns p.0 i n) (enumerate_from j xs)))) next

pub by_place : {X : Type 0} → OwnedGoByPlace X
by_place i n xs = from_place i n 0 xs
