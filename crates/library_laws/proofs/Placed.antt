-- What stands at a place.
use Rattle.std.proofs.Common.{◌≡◌, ℕ, ℤ, List, Option, Some, None, refl, ap, subst}
use Rattle.std.specs.Prelude.{pos, negsuc, slice_get, ◌+◌, ◌*◌}
use Rattle.std.specs.Option.{option_map}
use Rattle.program_rules.specs.declared.value.Value.{Value}
use Rattle.program_rules.specs.Kinds.{Kind}
use Rattle.program_rules.specs.Objects.{Object}
use Rattle.program_rules.specs.Programs.{Look}
use Rattle.program_rules.specs.Deeds.{Deed}
use Rattle.library_rules.specs.Arguments.{place_of}
use Rattle.library_rules.specs.Collections.{placed_item, entry_item, on_placed, on_place}
use Rattle.type_laws.specs.Soundness.{DeedFits}

module _ (p : Look) (r : Option Kind) (h : List Object) where
  abbrev Fits : Deed → Type 0
  Fits d = DeedFits p h r d

  of_placed : (go : ℕ → Value → Deed) (e : Option (ℕ × Value)) → ((i : ℕ) (v : Value) → e ≡ Some (i, v) → Fits (go i v)) → Fits (on_placed e go)
  of_placed go None f = tt
  of_placed go (Some e) f = f e.0 e.1 refl

  pub of_place : (go : ℕ → Deed) (o : Option ℕ) → ((i : ℕ) → Fits (go i)) → Fits (on_place o go)
  of_place go None f = tt
  of_place go (Some i) f = f i

  abbrev beside : ℕ → Value → ℕ × Value
  beside i u = (i, u)

  pair_of : (i j : ℕ) (v : Value) (o : Option Value) → option_map (beside i) o ≡ Some (beside j v) → (i ≡ j) × (o ≡ Some v)
  pair_of i j v None e = absurd cc
  pair_of i j v (Some u) e =
      let same : beside i u ≡ beside j v = cc in
      (ap (λ (z : ℕ × Value). z.0) same, ap (λ (z : ℕ × Value). Some z.1) same)

  at_item : (vs : List Value) (z : ℤ) (i : ℕ) (v : Value) → placed_item vs (place_of z) ≡ Some (i, v) → slice_get vs i ≡ Some v
  at_item vs (pos n) i v e = let a = pair_of n i v (slice_get vs n) e in subst (λ k. slice_get vs k ≡ Some v) a.0 a.1
  at_item vs (negsuc n) i v e = absurd cc

  at_entry : (k : ℕ) (vs : List Value) (z : ℤ) (i : ℕ) (v : Value) → entry_item k vs (place_of z) ≡ Some (i, v) → slice_get vs (3 * i + k) ≡ Some v
  at_entry k vs (pos n) i v e = let a = pair_of n i v (slice_get vs (3 * n + k)) e in subst (λ j. slice_get vs (3 * j + k) ≡ Some v) a.0 a.1
  at_entry k vs (negsuc n) i v e = absurd cc

  -- of a list
  pub of_item : (go : ℕ → Value → Deed) (vs : List Value) (z : ℤ) → ((i : ℕ) (v : Value) → slice_get vs i ≡ Some v → Fits (go i v)) → Fits (on_placed (placed_item vs (place_of z)) go)
  of_item go vs z f = of_placed go (placed_item vs (place_of z)) (λ i v e. f i v (at_item vs z i v e))

  -- of entries
  pub of_entry : (go : ℕ → Value → Deed) (k : ℕ) (vs : List Value) (z : ℤ) → ((i : ℕ) (v : Value) → slice_get vs (3 * i + k) ≡ Some v → Fits (go i v)) → Fits (on_placed (entry_item k vs (place_of z)) go)
  of_entry go k vs z f = of_placed go (entry_item k vs (place_of z)) (λ i v e. f i v (at_entry k vs z i v e))
