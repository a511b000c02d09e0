-- What a shard owns of a list with one more.
use Rattle.std.proofs.Common.{◌≡◌, ◌∙◌, ℕ, suc, ◌+◌, ◌%◌, Bool, true, false, List, [], ◌∷◌, ◌++◌, length, ap, arith, nat_eq}
use Rattle.std.specs.Prelude.{if◌then◌else◌}
use Rattle.job_rules.specs.Shards.{owned_from}
use Rattle.shard_rules.specs.Owners.{owned, owns}

push_case : {X : Type 0} (b : Bool) (y : X) (xs ys tail : List X) → xs ≡ ys ++ tail → (if b then y ∷ xs else xs) ≡ (if b then y ∷ ys else ys) ++ tail
push_case true y xs ys tail e = ap (λ zs. y ∷ zs) e
push_case false y xs ys tail e = e

push_from : {X : Type 0} (i n k : ℕ) (ys : List X) (x : X) → owned_from i n k (ys ++ x ∷ []) ≡ owned_from i n k ys ++ (if owns (k + length ys) i n then x ∷ [] else [])
push_from i n k [] x = let at : k ≡ k + 0 = omega arith in ap (λ (j : ℕ). if owns j i n then x ∷ [] else []) at
push_from i n k (y ∷ ys) x =
    let at : suc k + length ys ≡ k + suc (length ys) = omega arith in
    push_case (nat_eq (k % n + 1) i) y (owned_from i n (suc k) (ys ++ x ∷ [])) (owned_from i n (suc k) ys) (if owns (k + suc (length ys)) i n then x ∷ [] else [])
    (push_from i n (suc k) ys x ∙ ap (λ (j : ℕ). owned_from i n (suc k) ys ++ (if owns j i n then x ∷ [] else [])) at)

pub owned_push : {X : Type 0} (i n : ℕ) (ys : List X) (x : X) → owned i n (ys ++ x ∷ []) ≡ owned i n ys ++ (if owns (length ys) i n then x ∷ [] else [])
owned_push i n ys x = let at : 0 + length ys ≡ length ys = omega arith in push_from i n 0 ys x ∙ ap (λ (j : ℕ). owned i n ys ++ (if owns j i n then x ∷ [] else [])) at
