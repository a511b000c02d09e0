-- Lists of names.
use Rattle.std.proofs.Common.{◌≡◌, Bool, true, false, List, [], ◌∷◌, ◌++◌, refl, sym, subst, ◌⊎◌, inl, inr, ⊎_elim}
use Rattle.std.specs.Prelude.{◌&&◌}
use Rattle.std.specs.List.{list_all}
use Rattle.program_rules.specs.Names.{Name, same, is_listed}
use Rattle.program_rules.specs.Programs.{concat_over}
use Rattle.reuse_laws.proofs.Tests.{or_either, or_first, or_second, names_are, first_listed}

pub listed_both : (x : Name) (xs ys : List Name) → is_listed x xs ≡ true → is_listed x (xs ++ ys) ≡ true
listed_both x [] ys h = absurd cc
listed_both x (y ∷ xs) ys h =
    ⊎_elim (λ (e : same y x ≡ true). or_first (same y x) (is_listed x (xs ++ ys)) e)
    (λ (e : is_listed x xs ≡ true). or_second (same y x) (is_listed x (xs ++ ys)) (listed_both x xs ys e)) (or_either (same y x) (is_listed x xs) h)

pub listed_behind : (x : Name) (xs ys : List Name) → is_listed x ys ≡ true → is_listed x (xs ++ ys) ≡ true
listed_behind x [] ys h = h
listed_behind x (y ∷ xs) ys h = or_second (same y x) (is_listed x (xs ++ ys)) (listed_behind x xs ys h)

pub listed_either : (n : Name) (xs ys : List Name) → is_listed n (xs ++ ys) ≡ true → (is_listed n xs ≡ true) ⊎ (is_listed n ys ≡ true)
listed_either n [] ys h = inr h
listed_either n (x ∷ xs) ys h =
    ⊎_elim (λ (e : same x n ≡ true). inl (or_first (same x n) (is_listed n xs) e))
    (λ (e : is_listed n (xs ++ ys) ≡ true). ⊎_elim (λ (l : is_listed n xs ≡ true). inl (or_second (same x n) (is_listed n xs) l)) (λ (l : is_listed n ys ≡ true). inr l) (listed_either n xs ys e))
    (or_either (same x n) (is_listed n (xs ++ ys)) h)

-- one of the lists that names lead to has it
pub listed_over : (go : Name → List Name) (x m : Name) (ns : List Name) → is_listed m ns ≡ true → is_listed x (go m) ≡ true → is_listed x (concat_over go ns) ≡ true
listed_over go x m [] h l = absurd cc
listed_over go x m (n ∷ ns) h l =
    ⊎_elim (λ (e : same n m ≡ true). listed_both x (go n) (concat_over go ns) (subst (λ (z : Name). is_listed x (go z) ≡ true) (sym (names_are n m e)) l))
    (λ (e : is_listed m ns ≡ true). listed_behind x (go n) (concat_over go ns) (listed_over go x m ns e l)) (or_either (same n m) (is_listed m ns) h)

and_true : (a b : Bool) → a ≡ true → b ≡ true → a && b ≡ true
and_true true b e h = h
and_true false b e h = absurd cc

-- a test that each of these names passes
pub all_of : (f : Name → Bool) (ns : List Name) → ((n : Name) → is_listed n ns ≡ true → f n ≡ true) → list_all f ns ≡ true
all_of f [] h = refl
all_of f (n ∷ ns) h = and_true (f n) (list_all f ns) (h n (first_listed n ns)) (all_of f ns (λ k l. h k (or_second (same n k) (is_listed k ns) l)))
