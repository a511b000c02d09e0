-- Lists by recursion.
use Rattle.std.proofs.Common.{◌≡◌, ℕ, ◌+◌, Bool, true, false, cond, List, [], ◌∷◌, ◌++◌, map, filter, refl, ap}
use Rattle.std.specs.List.{AllByRecursion, enumerate_from}

module _ {A : Type 0} where
  pub all_mapped : {B : Type 0} (P : A → Type 0) (Q : B → Type 0) (f : A → B) → ((x : A) → P x → Q (f x)) → (xs : List A) → AllByRecursion P xs → AllByRecursion Q (map f xs)
  all_mapped P Q f h [] q = tt
  all_mapped P Q f h (x ∷ xs) q = (h x q.0, all_mapped P Q f h xs q.1)

  pub all_unmapped : {B : Type 0} (Q : B → Type 0) (f : A → B) (xs : List A) → AllByRecursion Q (map f xs) → AllByRecursion (λ x. Q (f x)) xs
  all_unmapped Q f [] q = tt
  all_unmapped Q f (x ∷ xs) q = (q.0, all_unmapped Q f xs q.1)

  pub all_each : (P Q : A → Type 0) → ((x : A) → P x → Q x) → (xs : List A) → AllByRecursion P xs → AllByRecursion Q xs
  all_each P Q h [] q = tt
  all_each P Q h (x ∷ xs) q = (h x q.0, all_each P Q h xs q.1)

  pub all_zipped : (P Q R : A → Type 0) → ((x : A) → P x → Q x → R x) → (xs : List A) → AllByRecursion P xs → AllByRecursion Q xs → AllByRecursion R xs
  all_zipped P Q R h [] p q = tt
  all_zipped P Q R h (x ∷ xs) p q = (h x p.0 q.0, all_zipped P Q R h xs p.1 q.1)

  pub all_joined : (P : A → Type 0) (xs ys : List A) → AllByRecursion P xs → AllByRecursion P ys → AllByRecursion P (xs ++ ys)
  all_joined P [] ys p q = q
  all_joined P (x ∷ xs) ys p q = (p.0, all_joined P xs ys p.1 q)

  kept_case : (P : A → Type 0) (x : A) (xs : List A) (b : Bool) → P x → AllByRecursion P xs → AllByRecursion P (cond b (x ∷ xs) xs)
  kept_case P x xs true p q = (p, q)
  kept_case P x xs false p q = q

  pub all_filtered : (P : A → Type 0) (test : A → Bool) (xs : List A) → AllByRecursion P xs → AllByRecursion P (filter test xs)
  all_filtered P test [] q = tt
  all_filtered P test (x ∷ xs) q = kept_case P x (filter test xs) (test x) q.0 (all_filtered P test xs q.1)

  pub all_numbered : (P : A → Type 0) (n : ℕ) (xs : List A) → AllByRecursion P xs → AllByRecursion (λ x. P x.1) (enumerate_from n xs)
  all_numbered P n [] q = tt
  all_numbered P n (x ∷ xs) q = (q.0, all_numbered P (n + 1) xs q.1)

  -- two functions that agree on a list
  pub mapped_alike : {B : Type 0} (P : A → Type 0) (f g : A → B) → ((x : A) → P x → f x ≡ g x) → (xs : List A) → AllByRecursion P xs → map f xs ≡ map g xs
  mapped_alike P f g h [] q = refl
  mapped_alike P f g h (x ∷ xs) q = λ i. h x q.0 i ∷ mapped_alike P f g h xs q.1 i

  pub filtered_alike : (P : A → Type 0) (f g : A → Bool) → ((x : A) → P x → f x ≡ g x) → (xs : List A) → AllByRecursion P xs → filter f xs ≡ filter g xs
  filtered_alike P f g h [] q = refl
  filtered_alike P f g h (x ∷ xs) q = λ i. cond (h x q.0 i) (x ∷ filtered_alike P f g h xs q.1 i) (filtered_alike P f g h xs q.1 i)

  pub map_twice : {B C : Type 0} (f : A → B) (g : B → C) (xs : List A) → map g (map f xs) ≡ map (λ x. g (f x)) xs
  map_twice f g [] = refl
  map_twice f g (x ∷ xs) = ap (λ ys. g (f x) ∷ ys) (map_twice f g xs)
