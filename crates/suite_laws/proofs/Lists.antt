-- Lists under a map, with one item changed or replaced.
use Rattle.std.proofs.Common.{◌≡◌, refl, ap, ℕ, zero, suc, List, [], ◌∷◌, ◌++◌, map, take, drop, Some}
use Rattle.std.specs.Prelude.{slice_get, slice_set}
use Rattle.machine_laws.specs.Edit.{replaced_at}
use Rattle.mutant_apply.specs.Edited.{changed_at}

module _ {X Y : Type 0} (f : X → Y) where
  pub map_changed : (change : X → X) (xs : List X) (at : ℕ) (x : X) → slice_get xs at ≡ Some x → map f (changed_at at change xs) ≡ slice_set (map f xs) at (f (change x))
  map_changed change [] at x h = absurd cc
  map_changed change (y ∷ xs) zero x h = let same : y ≡ x = cc in ap (λ z. f (change z) ∷ map f xs) same
  map_changed change (y ∷ xs) (suc at) x h = ap (λ ys. f y ∷ ys) (map_changed change xs at x h)

  -- an item put in the place of one that is there
  pub map_spliced : (new : X) (xs : List X) (at : ℕ) (x : X) → slice_get xs at ≡ Some x → map f (take at xs ++ new ∷ drop (suc at) xs) ≡ replaced_at at (f new ∷ []) (map f xs)
  map_spliced new [] at x h = absurd cc
  map_spliced new (y ∷ xs) zero x h = refl
  map_spliced new (y ∷ xs) (suc at) x h = ap (λ ys. f y ∷ ys) (map_spliced new xs at x h)
