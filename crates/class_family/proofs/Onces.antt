-- Names, each once: found one by one, or kept from a list.
use Rattle.std.proofs.Common.{◌≡◌, ◌∙◌, sym, refl, ap, subst, ◌⊎◌, inl, inr, ℕ, Bool, true, false, not, cond, List, [], ◌∷◌, ◌++◌, append_assoc}
use Rattle.std.specs.Prelude.{◌||◌, if◌then◌else◌}
use Rattle.std.specs.List.{filter, list_any}
use Rattle.std.specs.Cmp.Lexicographic.{same_text}
use Rattle.program_rules.specs.Names.{Name, same, is_listed}
use Rattle.program_rules.specs.Programs.{consult_in, consult_one}
use Rattle.class_order.proofs.Within.{same_itself, or_first, or_second}
use Rattle.class_family.specs.Once.{each_once}
use Rattle.class_family.specs.Walks.{nobody, add_in}
use Rattle.class_family.proofs.Pushing.{append_nil}

-- those of these names that aren't there
abbrev pub fresh : List Name → List Name → List Name
fresh ns ms = filter (λ m. not (is_listed m ns)) ms

abbrev pub others : Name → List Name → List Name
others n ms = filter (λ m. not (same n m)) ms

-- two tests that say the same keep the same
same_kept : {A : Type 0} (f g : A → Bool) → ((x : A) → f x ≡ g x) → (xs : List A) → filter f xs ≡ filter g xs
same_kept f g h [] = refl
same_kept f g h (x ∷ xs) = ap (λ b. cond b (x ∷ filter f xs) (filter f xs)) (h x) ∙ ap (λ l. cond (g x) (x ∷ l) l) (same_kept f g h xs)

-- a filter behind a filter keeps what both keep
pub kept_twice : {A : Type 0} (f g : A → Bool) (xs : List A) → filter f (filter g xs) ≡ filter (λ x. cond (g x) (f x) false) xs
kept_twice f g [] = refl
kept_twice f g (x ∷ xs) = by_test (g x) (kept_twice f g xs)
  where
    by_test : (b : Bool) → filter f (filter g xs) ≡ filter (λ y. cond (g y) (f y) false) xs → filter f (cond b (x ∷ filter g xs) (filter g xs)) ≡ cond (cond b (f x) false) (x ∷ filter (λ y. cond (g y) (f y) false) xs) (filter (λ y. cond (g y) (f y) false) xs)
    by_test true rest = ap (λ l. cond (f x) (x ∷ l) l) rest
    by_test false rest = rest

listed_same : (n m : Name) (ns : List Name) (b : Bool) → same n m ≡ b → is_listed n ns ≡ true → cond (not b) (not (is_listed m ns)) false ≡ not (is_listed m ns)
listed_same n m ns true e h = ap not (sym (subst (λ x. is_listed x ns ≡ true) (same_text n m (sym e)) h))
listed_same n m ns false e h = refl

fresh_others : (n : Name) (ns ms : List Name) → is_listed n ns ≡ true → fresh ns (others n ms) ≡ fresh ns ms
fresh_others n ns ms h = kept_twice (λ m. not (is_listed m ns)) (λ m. not (same n m)) ms ∙ same_kept (λ m. cond (not (same n m)) (not (is_listed m ns)) false) (λ m. not (is_listed m ns)) (λ m. listed_same n m ns (same n m) refl h) ms

listed_end : (m n : Name) (ns : List Name) → is_listed m (ns ++ n ∷ []) ≡ (is_listed m ns || same n m)
listed_end m n [] = by_test (same n m)
  where
    by_test : (b : Bool) → (b || false) ≡ b
    by_test true = refl
    by_test false = refl
listed_end m n (x ∷ ns) = by_test (same x m) (listed_end m n ns)
  where
    by_test : (b : Bool) → is_listed m (ns ++ n ∷ []) ≡ (is_listed m ns || same n m) → (b || is_listed m (ns ++ n ∷ [])) ≡ ((b || is_listed m ns) || same n m)
    by_test true rest = refl
    by_test false rest = rest

end_same : (a b : Bool) → cond (not b) (not a) false ≡ not (a || b)
end_same true true = refl
end_same true false = refl
end_same false true = refl
end_same false false = refl

fresh_end : (n : Name) (ns ms : List Name) → fresh ns (others n ms) ≡ fresh (ns ++ n ∷ []) ms
fresh_end n ns ms = kept_twice (λ m. not (is_listed m ns)) (λ m. not (same n m)) ms ∙ same_kept (λ m. cond (not (same n m)) (not (is_listed m ns)) false) (λ m. not (is_listed m (ns ++ n ∷ []))) (λ m. end_same (is_listed m ns) (same n m) ∙ ap not (sym (listed_end m n ns))) ms

-- names that are added each once are those of them that weren't there, each once
pub add_is : (ms ns : List Name) → add_in ms ns ≡ ns ++ fresh ns (each_once ms)
add_is [] ns = sym (append_nil ns)
add_is (m ∷ ms) ns = by_test (is_listed m ns) refl (add_is ms)
  where
    by_test : (b : Bool) → is_listed m ns ≡ b → ((l : List Name) → add_in ms l ≡ l ++ fresh l (each_once ms)) → add_in ms (if b then ns else ns ++ m ∷ []) ≡ ns ++ cond (not b) (m ∷ fresh ns (others m (each_once ms))) (fresh ns (others m (each_once ms)))
    by_test true e rest = rest ns ∙ ap (λ l. ns ++ l) (sym (fresh_others m ns (each_once ms) e))
    by_test false e rest = rest (ns ++ m ∷ []) ∙ append_assoc ns (m ∷ []) (fresh (ns ++ m ∷ []) (each_once ms)) ∙ ap (λ l. ns ++ m ∷ l) (sym (fresh_end m ns (each_once ms)))

all_fresh : (ms : List Name) → fresh [] ms ≡ ms
all_fresh [] = refl
all_fresh (m ∷ ms) = ap (λ l. m ∷ l) (all_fresh ms)

pub add_all : (ms : List Name) → add_in ms [] ≡ each_once ms
add_all ms = add_is ms [] ∙ all_fresh (each_once ms)
