-- Lists.
use Rattle.std.proofs.Common.{◌≡◌, ◌∙◌, sym, refl, ap, ap₂, subst, ℕ, zero, suc, ◌+◌, ◌<◌, ◌≤◌, List, [], ◌∷◌, ◌++◌, Option, Some, All, length, map, take, drop, slice_get, slice_index, slice_index_or, arith, length-append}
use Rattle.std.specs.Prelude.{Contains}
use Rattle.std.proofs.lemmas.List.{map-append, take_more}

-- ---- one of a list

pub first_one : {X : Type 0} (x : X) (xs : List X) → Contains (x ∷ xs) x
first_one x xs = (zero, omega arith, refl)

pub one_more : {X : Type 0} (x y : X) (xs : List X) → Contains xs y → Contains (x ∷ xs) y
one_more x y xs h = (suc h.0, (let lt = h.1 in omega (arith, lt)), h.2)

-- What stands at a place, whatever stands for what is past the end.
pub at_default : {X : Type 0} (xs : List X) (k : ℕ) (d e : X) → k < length xs → slice_index_or xs k d ≡ slice_index_or xs k e
at_default [] k d e lt = absurd (omega (arith, lt))
at_default (x ∷ xs) zero d e lt = refl
at_default (x ∷ xs) (suc k) d e lt = at_default xs k d e (omega (arith, lt))

pub get_at : {X : Type 0} (xs : List X) (k : ℕ) (d x : X) → slice_get xs k ≡ Some x → slice_index_or xs k d ≡ x
get_at [] k d x e = absurd cc
get_at (y ∷ xs) zero d x e = cc
get_at (y ∷ xs) (suc k) d x e = get_at xs k d x e

pub get_of : {X : Type 0} (xs : List X) (k : ℕ) (x : X) → k < length xs → x ≡ slice_index_or xs k x → slice_get xs k ≡ Some x
get_of [] k x lt e = absurd (omega (arith, lt))
get_of (y ∷ xs) zero x lt e = ap Some (sym e)
get_of (y ∷ xs) (suc k) x lt e = get_of xs k x (omega (arith, lt)) e

-- One of numbers that are at most another one is that, too, and so is 0.
pub bound_at : (most : ℕ) (ns : List ℕ) (k : ℕ) → All (λ n. n ≤ most) ns → slice_index ns k ≤ most
bound_at most [] k h = omega arith
bound_at most (n ∷ ns) zero h = h zero n (omega arith)
bound_at most (n ∷ ns) (suc k) h = bound_at most ns k (λ i d lt. h (suc i) d (omega (arith, lt)))

pub take_whole : {X : Type 0} (xs : List X) (n : ℕ) → length xs ≤ n → take n xs ≡ xs
take_whole [] zero le = refl
take_whole [] (suc n) le = refl
take_whole (x ∷ xs) zero le = absurd (omega (arith, le))
take_whole (x ∷ xs) (suc n) le = ap (λ l. x ∷ l) (take_whole xs n (omega (arith, le)))

-- ---- each of a list

pub all_joined : {X : Type 0} (P : X → Type 0) (xs ys : List X) → All P xs → All P ys → All P (xs ++ ys)
all_joined P [] ys h g k d lt = g k d lt
all_joined P (x ∷ xs) ys h g zero d lt = h zero d (omega arith)
all_joined P (x ∷ xs) ys h g (suc k) d lt = all_joined P xs ys (λ i e l. h (suc i) e (omega (arith, l))) g k d (omega (arith, lt))

pub all_one : {X : Type 0} (P : X → Type 0) (x : X) → P x → All P (x ∷ [])
all_one P x p zero d lt = p
all_one P x p (suc k) d lt = absurd (omega (arith, lt))

-- One more behind so many.
pub pushed : {X : Type 0} (P : X → Type 0) (xs ys : List X) (x : X) (n : ℕ) → ys ≡ xs ++ x ∷ [] → P x → (length xs ≡ n) × All P xs → (length ys ≡ n + 1) × All P ys
pushed P xs ys x n is p h =
    let longer = ap length is in
    let both = length-append xs (x ∷ []) in
    let before = h.0 in
    (omega (arith, longer, both, before), subst (All P) (sym is) (all_joined P xs (x ∷ []) h.1 (all_one P x p)))

-- ---- a list of images

module _ {X Y : Type 0} (f : X → Y) where
  pub long_map : (xs : List X) → length (map f xs) ≡ length xs
  long_map [] = refl
  long_map (x ∷ xs) = ap suc (long_map xs)

  pub at_map : (xs : List X) (k : ℕ) (d : X) → k < length xs → f (slice_index_or xs k d) ≡ slice_index_or (map f xs) k (f d)
  at_map [] k d lt = absurd (omega (arith, lt))
  at_map (x ∷ xs) zero d lt = refl
  at_map (x ∷ xs) (suc k) d lt = at_map xs k d (omega (arith, lt))

  pub get_mapped : (xs : List X) (k : ℕ) (d : X) → k < length xs → slice_get (map f xs) k ≡ Some (f (slice_index_or xs k d))
  get_mapped [] k d lt = absurd (omega (arith, lt))
  get_mapped (x ∷ xs) zero d lt = refl
  get_mapped (x ∷ xs) (suc k) d lt = get_mapped xs k d (omega (arith, lt))

  pub take_map : (n : ℕ) (xs : List X) → map f (take n xs) ≡ take n (map f xs)
  take_map zero xs = refl
  take_map (suc n) [] = refl
  take_map (suc n) (x ∷ xs) = ap (λ l. f x ∷ l) (take_map n xs)

  pub drop_map : (n : ℕ) (xs : List X) → map f (drop n xs) ≡ drop n (map f xs)
  drop_map zero xs = refl
  drop_map (suc n) [] = refl
  drop_map (suc n) (x ∷ xs) = drop_map n xs

-- One more image behind those of the first ones.
pub map_next : {X Y : Type 0} (f : X → Y) (xs : List X) (k : ℕ) (x : X) (ys : List Y) (y : Y) → k < length xs → x ≡ slice_index_or xs k x → ys ≡ map f (take k xs) → y ≡ f x → ys ++ y ∷ [] ≡ map f (take (k + 1) xs)
map_next f xs k x ys y lt is so image =
    ap₂ (λ l z. l ++ z ∷ []) so (image ∙ ap f is)
    ∙ sym (ap (map f) (take_more xs k x lt) ∙ map-append f (take k xs) (slice_index_or xs k x ∷ []))

pub map_twice : {A B C : Type 0} (f : A → B) (g : B → C) (xs : List A) → map g (map f xs) ≡ map (λ x. g (f x)) xs
map_twice f g [] = refl
map_twice f g (x ∷ xs) = ap (λ ys. g (f x) ∷ ys) (map_twice f g xs)
