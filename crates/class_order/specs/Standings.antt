-- What is found of each class: that it stands above itself, or a rank (this project's own).
use Rattle.std.specs.Prelude.{◌≡◌, ◌<◌, ◌^◌, ℕ, List, Option, Some, slice_get, length}
use Rattle.class_order.specs.declared.links.Links.{Links}
use Rattle.class_order.specs.declared.standing.Standing.{Standing}
use Rattle.class_order.specs.declared.standing.Standing.TheVariants.{New, Open, Ranked, Cyclic}
use Rattle.class_order.specs.Graph.{supers_at, IsAboveItself}

-- A class stands above itself, or its rank is below this one.
pub data IsLower (found : Option Standing) (rank : ℕ) : Type 0 where
  cyclic : found ≡ Some Cyclic → IsLower found rank
  ranked : (r : ℕ) → found ≡ Some (Ranked r) → r < rank → IsLower found rank

-- Exactly the classes above themselves are told so. Each other one has a rank, and each of its
-- supers has a lower one or stands above itself.
abbrev pub IsStanding : List Links → List Standing → ℕ → Standing → Type 0
IsStanding g found a Cyclic = IsAboveItself g a
IsStanding g found a (Ranked rank) =
    (IsAboveItself g a → ⊥)
    × ((k b : ℕ) → slice_get (supers_at g a) k ≡ Some b → IsLower (slice_get found b) rank)
IsStanding g found a New = ⊥
IsStanding g found a (Open place) = ⊥

-- The same of each class.
pub record AreStandings (g : List Links) (found : List Standing) : Type 0 where
  pub each : length found ≡ length g
  pub fit : (a : ℕ) (s : Standing) → slice_get found a ≡ Some s → IsStanding g found a s
  pub few : (a rank : ℕ) → slice_get found a ≡ Some (Ranked rank) → rank < 2 ^ 32
