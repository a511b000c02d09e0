-- The search for all above some classes, and its steps (this project's own). No public clause cites
-- these.
use Rattle.std.specs.Prelude.{◌≡◌, ◌⊎◌, ◌+◌, ◌<◌, ◌≤◌, ℕ, nat_eq, if◌then◌else◌, List, [], ◌∷◌, ◌++◌, Some, slice_get, slice_set, length}
use Rattle.class_order.specs.declared.above.Above.{Above}
use Rattle.class_order.specs.declared.links.Links.{Links}
use Rattle.class_order.specs.declared.search.Search.{Search}
use Rattle.class_order.specs.declared.standing.Standing.{Standing}
use Rattle.class_order.specs.Graph.{supers_at, Leads}
use Rattle.class_order.specs.Walks.{Stands}
use Rattle.class_order.specs.Above.{IsRow, rank_of}

-- No search so far had a greater number.
pub record AreMarks (count bound : ℕ) (s : Search) : Type 0 where
  pub sized : length s.marks.items ≡ count
  pub bounded : (x m : ℕ) → slice_get s.marks.items x ≡ Some m → m ≤ bound

-- The classes with the number of this search are those that it found.
pub record IsSearch (count stamp : ℕ) (s : Search) : Type 0 where
  pub marks : AreMarks count stamp s
  pub marked : (x : ℕ) → slice_get s.marks.items x ≡ Some stamp → Stands s.found.items x
  pub stands : (x : ℕ) → Stands s.found.items x → slice_get s.marks.items x ≡ Some stamp

-- A class is noted, unless it was found.
pub data Notes (stamp class : ℕ) (old new : Search) : Type 0 where
  known : slice_get old.marks.items class ≡ Some stamp → new ≡ old → Notes stamp class old new
  noted :
      (slice_get old.marks.items class ≡ Some stamp → ⊥) →
      new.marks.items ≡ slice_set old.marks.items class stamp →
      new.found.items ≡ old.found.items ++ class ∷ [] → Notes stamp class old new

-- The classes that a search hasn't found.
abbrev pub unmarked : ℕ → List ℕ → ℕ
unmarked stamp [] = 0
unmarked stamp (m ∷ ms) = (if nat_eq m stamp then 0 else 1) + unmarked stamp ms

-- What a search has still to do, and no less.
abbrev pub work : ℕ → Search → ℕ
work stamp s = (unmarked stamp s.marks.items + unmarked stamp s.marks.items) + length s.found.items

-- What was found stands where it stood.
abbrev pub Keeps : Search → Search → Type 0
Keeps old new =
    (k x : ℕ) → slice_get old.found.items k ≡ Some x → slice_get new.found.items k ≡ Some x

-- A search has found these classes too.
pub record Finds (count stamp : ℕ) (classes : List ℕ) (old new : Search) : Type 0 where
  pub search : IsSearch count stamp new
  pub kept : Keeps old new
  pub all : (x : ℕ) → Stands classes x → Stands new.found.items x
  pub none : (x : ℕ) → Stands new.found.items x → Stands old.found.items x ⊎ Stands classes x
  pub work : work stamp new ≤ work stamp old

-- From one place up to another, the supers of what was found were found. All of it stands above
-- what was found before.
pub record ClosesTo (g : List Links) (stamp from at : ℕ) (old new : Search) : Type 0 where
  pub search : IsSearch (length g) stamp new
  pub kept : Keeps old new
  pub closed :
      (k x y : ℕ) → from ≤ k → k < at → slice_get new.found.items k ≡ Some x →
      Stands (supers_at g x) y → Stands new.found.items y
  pub led :
      (x : ℕ) → Stands new.found.items x → (y : ℕ) × Stands old.found.items y × Leads g y x

-- The same up to the end.
abbrev pub Closes : List Links → ℕ → ℕ → Search → Search → Type 0
Closes g stamp from old new = ClosesTo g stamp from (length new.found.items) old new

-- What is kept of so many classes.
pub record AreRowsTo (g : List Links) (found : List Standing) (count : ℕ) (rows : List Above)
    : Type 0 where
  pub each : length rows ≡ count
  pub fit : (a : ℕ) (r : Above) → slice_get rows a ≡ Some r → IsRow g a r
  pub ranked :
      (a : ℕ) (r : Above) → slice_get rows a ≡ Some r → r.rank ≡ rank_of (slice_get found a)
