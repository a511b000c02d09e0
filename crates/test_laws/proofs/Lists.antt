-- Lists by recursion.
use Rattle.std.proofs.Common.{◌≡◌, ℕ, zero, suc, Bool, List, [], ◌∷◌, ◌++◌, map, refl, ap}
use Rattle.std.specs.Prelude.{◌||◌}
use Rattle.std.specs.List.{list_any, flat_map, AllByRecursion}
use Rattle.mutant_apply.specs.Edited.{changed_at}

pub flat_mapped : {A B C : Type 0} (f : A → List C) (g : B → List C) (h : A → B) → ((x : A) → f x ≡ g (h x)) → (xs : List A) → flat_map f xs ≡ flat_map g (map h xs)
flat_mapped f g h e [] = refl
flat_mapped f g h e (x ∷ xs) = λ i. e x i ++ flat_mapped f g h e xs i

pub any_mapped : {A B : Type 0} (f : A → Bool) (g : B → Bool) (h : A → B) → ((x : A) → f x ≡ g (h x)) → (xs : List A) → list_any f xs ≡ list_any g (map h xs)
any_mapped f g h e [] = refl
any_mapped f g h e (x ∷ xs) = λ i. e x i || any_mapped f g h e xs i

pub any_on : {A : Type 0} (f g : A → Bool) (P : A → Type 0) → ((x : A) → P x → f x ≡ g x) → (xs : List A) → AllByRecursion P xs → list_any f xs ≡ list_any g xs
any_on f g P e [] q = refl
any_on f g P e (x ∷ xs) q = λ i. e x q.0 i || any_on f g P e xs q.1 i

pub flat_on : {A C : Type 0} (f g : A → List C) (P : A → Type 0) → ((x : A) → P x → f x ≡ g x) → (xs : List A) → AllByRecursion P xs → flat_map f xs ≡ flat_map g xs
flat_on f g P e [] q = refl
flat_on f g P e (x ∷ xs) q = λ i. e x q.0 i ++ flat_on f g P e xs q.1 i

pub map_on : {A C : Type 0} (f g : A → C) (P : A → Type 0) → ((x : A) → P x → f x ≡ g x) → (xs : List A) → AllByRecursion P xs → map f xs ≡ map g xs
map_on f g P e [] q = refl
map_on f g P e (x ∷ xs) q = λ i. e x q.0 i ∷ map_on f g P e xs q.1 i

-- a change that a function doesn't see
pub map_changed : {A C : Type 0} (f : A → C) (change : A → A) → ((x : A) → f (change x) ≡ f x) → (at : ℕ) (xs : List A) → map f (changed_at at change xs) ≡ map f xs
map_changed f change e at [] = refl
map_changed f change e zero (x ∷ xs) = ap (λ y. y ∷ map f xs) (e x)
map_changed f change e (suc at) (x ∷ xs) = ap (λ ys. f x ∷ ys) (map_changed f change e at xs)
