-- What stands above each class, kept as a way up: one of its supers, with all above that one, and
-- the classes beside (this project's own).
use Rattle.std.specs.Prelude.{◌≡◌, ◌⊎◌, ◌<◌, ℕ, nat_eq, Bool, true, if◌then◌else◌, List, [], Option, Some, None, slice_get, option_and_then, length}
use Rattle.std.specs.List.{list_any}
use Rattle.class_order.specs.declared.above.Above.{Above}
use Rattle.class_order.specs.declared.links.Links.{Links}
use Rattle.class_order.specs.declared.standing.Standing.{Standing}
use Rattle.class_order.specs.declared.standing.Standing.TheVariants.{New, Open, Ranked, Cyclic}
use Rattle.class_order.specs.Graph.{supers_at, Leads}
use Rattle.class_order.specs.Walks.{Stands}

-- By what is kept, a class is another one or stands below it.
pub data IsOver (rows : List Above) : ℕ → ℕ → Type 0 where
  itself : (a : ℕ) → IsOver rows a a
  listed :
      (a b : ℕ) (r : Above) → slice_get rows a ≡ Some r → Stands r.beside.items b → IsOver rows a b
  above :
      (a u b : ℕ) (r : Above) → slice_get rows a ≡ Some r → r.through ≡ Some u →
      IsOver rows u b → IsOver rows a b

-- What is kept of a class, if anything is.
abbrev pub beside_in : Option Above → List ℕ
beside_in None = []
beside_in (Some r) = r.beside.items

-- A class is another one, or that one stands beside.
abbrev pub is_here : List Above → ℕ → ℕ → Bool
is_here rows a b =
    if nat_eq a b then true else list_any (nat_eq b) (beside_in (slice_get rows a))

-- The super that a class goes up through.
abbrev pub through_at : List Above → ℕ → Option ℕ
through_at rows a = option_and_then (λ r. r.through) (slice_get rows a)

-- The rank of a class that has one.
abbrev pub rank_of : Option Standing → ℕ
rank_of None = 0
rank_of (Some New) = 0
rank_of (Some (Open place)) = 0
rank_of (Some (Ranked rank)) = rank
rank_of (Some Cyclic) = 0

-- Each super has a lower rank.
abbrev pub AreRanked : List Links → List Standing → Type 0
AreRanked g found =
    (a b : ℕ) → Stands (supers_at g a) b → rank_of (slice_get found b) < rank_of (slice_get found a)

-- The rank that is kept of a class.
abbrev pub rank_in : Option Above → ℕ
rank_in None = 0
rank_in (Some r) = r.rank

-- Ranks fall on the way up.
abbrev pub AreFalling : List Above → Type 0
AreFalling rows =
    (a u : ℕ) (r : Above) → slice_get rows a ≡ Some r → r.through ≡ Some u →
    rank_in (slice_get rows u) < rank_in (slice_get rows a)

-- What stands above a class: itself, one of the classes beside, or what stands above this super.
abbrev pub IsReached : List Links → ℕ → Option ℕ → List ℕ → ℕ → Type 0
IsReached g a up more b =
    (a ≡ b) ⊎ (Stands more b ⊎ ((u : ℕ) × (up ≡ Some u) × Leads g u b))

-- The way up from a class.
pub record IsWayUp (g : List Links) (a : ℕ) (up : Option ℕ) (more : List ℕ) : Type 0 where
  pub super : (u : ℕ) → up ≡ Some u → Stands (supers_at g a) u
  pub others : (b : ℕ) → Stands more b → Leads g a b
  pub whole : (b : ℕ) → Leads g a b → IsReached g a up more b

-- What is kept of a class.
abbrev pub IsRow : List Links → ℕ → Above → Type 0
IsRow g a r = IsWayUp g a r.through r.beside.items

-- The same of each class.
pub record AreRows (g : List Links) (rows : List Above) : Type 0 where
  pub each : length rows ≡ length g
  pub fit : (a : ℕ) (r : Above) → slice_get rows a ≡ Some r → IsRow g a r
  pub falls : AreFalling rows
