-- The state of the walk over all classes that finds those above themselves (this project's own). No
-- public clause cites these.
use Rattle.std.specs.Prelude.{◌≡◌, ◌+◌, ◌*◌, ◌<◌, ◌≤◌, ◌-◌, ◌^◌, ℕ, Bool, true, false, List, [], ◌∷◌, ◌++◌, Option, Some, None, slice_get, slice_set, length, take, drop, replicate}
use Rattle.class_order.specs.declared.links.Links.{Links}
use Rattle.class_order.specs.declared.standing.Standing.{Standing}
use Rattle.class_order.specs.declared.standing.Standing.TheVariants.{New, Open, Ranked, Cyclic}
use Rattle.class_order.specs.declared.walk.Walk.{Walk}
use Rattle.class_order.specs.Graph.{supers_of, supers_at, Leads, IsAboveItself}
use Rattle.class_order.specs.Standings.{IsLower}

-- Whether a class is closed.
abbrev pub is_closed : Option Standing → Bool
is_closed None = false
is_closed (Some New) = false
is_closed (Some (Open place)) = false
is_closed (Some (Ranked rank)) = true
is_closed (Some Cyclic) = true

-- A class is closed, or open at this place or behind it.
pub data IsBehind (found : Option Standing) (bound : ℕ) : Type 0 where
  closed : is_closed found ≡ true → IsBehind found bound
  waits : (place : ℕ) → found ≡ Some (Open place) → bound ≤ place → IsBehind found bound

-- A number stands in a list.
pub record Stands (ns : List ℕ) (n : ℕ) : Type 0 where
  pub place : ℕ
  pub there : slice_get ns place ≡ Some n

-- The sum of what each class counts for.
abbrev pub summed : (Standing → ℕ) → List Standing → ℕ
summed f [] = 0
summed f (s ∷ more) = f s + summed f more

-- A class that isn't closed counts for one.
abbrev pub one_unclosed : Standing → ℕ
one_unclosed New = 1
one_unclosed (Open place) = 1
one_unclosed (Ranked rank) = 0
one_unclosed Cyclic = 0

-- A class that wasn't met counts for one.
abbrev pub one_unmet : Standing → ℕ
one_unmet New = 1
one_unmet (Open place) = 0
one_unmet (Ranked rank) = 0
one_unmet Cyclic = 0

-- What the lists of the walk are at each moment. `found` is what each class is, `looked` how many
-- of its supers were looked at; `stack` are the classes that were entered and aren't closed;
-- `bounds` parts them, so that those of one part stand above one another; `path` are the places of
-- open classes with supers that weren't looked at.
pub record IsWalk (g : List Links) (found : List Standing) (looked stack bounds path : List ℕ)
    (next : ℕ) : Type 0 where
  pub each : length found ≡ length g
  pub counts : length looked ≡ length g
  pub opened : (a k : ℕ) → slice_get found a ≡ Some (Open k) → slice_get stack k ≡ Some a
  pub placed : (k a : ℕ) → slice_get stack k ≡ Some a → slice_get found a ≡ Some (Open k)
  pub bounds_in : (i b : ℕ) → slice_get bounds i ≡ Some b → b < length stack
  pub bounds_rise :
      (i j b c : ℕ) → slice_get bounds i ≡ Some b → slice_get bounds j ≡ Some c → i < j → b < c
  pub bounds_first : 0 < length stack → slice_get bounds 0 ≡ Some 0
  pub path_in : (i k : ℕ) → slice_get path i ≡ Some k → k < length stack
  pub path_rise :
      (i j k m : ℕ) → slice_get path i ≡ Some k → slice_get path j ≡ Some m → i < j → k < m
  -- of a class that wasn't met nothing was looked at
  pub fresh :
      (a n : ℕ) → slice_get found a ≡ Some New → slice_get looked a ≡ Some n → n ≡ 0
  -- an open class that isn't on the path has no super that wasn't looked at
  pub finished :
      (k a n : ℕ) → slice_get stack k ≡ Some a → slice_get looked a ≡ Some n →
      n < length (supers_at g a) → Stands path k
  -- what was looked at from one part stands in it, behind it or is closed
  pub seen :
      (b k a n j c : ℕ) → Stands bounds b → b ≤ k → slice_get stack k ≡ Some a →
      slice_get looked a ≡ Some n → j < n → slice_get (supers_at g a) j ≡ Some c →
      IsBehind (slice_get found c) b
  -- the first of a part stands below all behind it, and each of a part below its first
  pub down :
      (b k a c : ℕ) → Stands bounds b → b ≤ k → slice_get stack b ≡ Some a →
      slice_get stack k ≡ Some c → Leads g a c
  pub back :
      (b k a c : ℕ) → Stands bounds b → b ≤ k →
      ((d : ℕ) → Stands bounds d → d ≤ k → d ≤ b) → slice_get stack b ≡ Some a →
      slice_get stack k ≡ Some c → Leads g c a
  -- all above a closed class is closed, and what it was found to be is right
  pub over :
      (a k c : ℕ) → is_closed (slice_get found a) ≡ true → slice_get (supers_at g a) k ≡ Some c →
      is_closed (slice_get found c) ≡ true
  pub cyclic : (a : ℕ) → slice_get found a ≡ Some Cyclic → IsAboveItself g a
  pub apart : (a r : ℕ) → slice_get found a ≡ Some (Ranked r) → IsAboveItself g a → ⊥
  pub lower :
      (a r k c : ℕ) → slice_get found a ≡ Some (Ranked r) → slice_get (supers_at g a) k ≡ Some c →
      IsLower (slice_get found c) r
  -- ranks so far are below the next one
  pub ranks : (a r : ℕ) → slice_get found a ≡ Some (Ranked r) → r < next
  pub fits : next < 2 ^ 32
  -- a rank is given to one class at most
  pub left : next + summed one_unclosed found ≤ length g

-- The same of the code's lists.
abbrev pub IsWalkOf : List Links → Walk → Type 0
IsWalkOf g w =
    IsWalk g w.found.items w.looked.items w.stack.items w.bounds.items w.path.items w.next

-- How many supers weren't looked at.
abbrev pub unlooked : List Links → List ℕ → ℕ
unlooked [] ns = 0
unlooked (l ∷ g) [] = 0
unlooked (l ∷ g) (n ∷ ns) = (length (supers_of l) - n) + unlooked g ns

-- What the walk has still to do, and no less.
abbrev pub to_do : List Links → Walk → ℕ
to_do g w =
    ((3 * summed one_unmet w.found.items + unlooked g w.looked.items) + length w.path.items)
    + length w.bounds.items

-- The walk has less to do than before.
abbrev pub IsLess : List Links → Walk → Walk → Type 0
IsLess g old new = to_do g new < to_do g old

-- ---- what a step does

-- A class that wasn't met before is entered.
pub record Enters (a : ℕ) (old new : Walk) : Type 0 where
  pub found : new.found.items ≡ slice_set old.found.items a (Open (length old.stack.items))
  pub looked : new.looked.items ≡ old.looked.items
  pub stack : new.stack.items ≡ old.stack.items ++ a ∷ []
  pub bounds : new.bounds.items ≡ old.bounds.items ++ length old.stack.items ∷ []
  pub path : new.path.items ≡ old.path.items ++ length old.stack.items ∷ []
  pub next : new.next ≡ old.next

-- No part begins behind this place.
abbrev pub AreUpTo : ℕ → List ℕ → Type 0
AreUpTo place bounds = (i b : ℕ) → slice_get bounds i ≡ Some b → b ≤ place

-- All are at most this place, or there is none.
abbrev pub EndsUpTo : ℕ → List ℕ → Type 0
EndsUpTo place bounds =
    (b : ℕ) → slice_get bounds (length bounds - 1) ≡ Some b → b ≤ place

-- The numbers behind a place were dropped, from the last one on.
pub record DropsBehind (place : ℕ) (old new : List ℕ) : Type 0 where
  pub kept : ℕ
  pub is : new ≡ take kept old
  pub long : kept ≤ length old
  pub behind : (i b : ℕ) → kept ≤ i → slice_get old i ≡ Some b → place < b
  pub upto : EndsUpTo place new

-- All parts behind the one that has this place are joined with it.
pub record Joins (place : ℕ) (old new : Walk) : Type 0 where
  pub found : new.found.items ≡ old.found.items
  pub looked : new.looked.items ≡ old.looked.items
  pub stack : new.stack.items ≡ old.stack.items
  pub bounds : DropsBehind place old.bounds.items new.bounds.items
  pub path : new.path.items ≡ old.path.items
  pub next : new.next ≡ old.next

-- A list without its last item.
abbrev pub without_end : List ℕ → List ℕ
without_end ns = take (length ns - 1) ns

-- The last class of the path has no super more.
pub record Finishes (old new : Walk) : Type 0 where
  pub found : new.found.items ≡ old.found.items
  pub looked : new.looked.items ≡ old.looked.items
  pub stack : new.stack.items ≡ old.stack.items
  pub bounds : new.bounds.items ≡ old.bounds.items
  pub path : new.path.items ≡ without_end old.path.items
  pub next : new.next ≡ old.next

-- All numbers are below this one.
abbrev pub AllBelow : List ℕ → ℕ → Type 0
AllBelow ns count = (i n : ℕ) → slice_get ns i ≡ Some n → n < count

-- These classes stand above themselves.
abbrev pub all_cyclic : List Standing → List ℕ → List Standing
all_cyclic found [] = found
all_cyclic found (a ∷ more) = all_cyclic (slice_set found a Cyclic) more

-- The last part is this class alone, and it gets the next rank.
pub record ClosesOne (a : ℕ) (old new : Walk) : Type 0 where
  pub found : new.found.items ≡ slice_set old.found.items a (Ranked old.next)
  pub looked : new.looked.items ≡ old.looked.items
  pub stack : new.stack.items ≡ without_end old.stack.items
  pub bounds : new.bounds.items ≡ without_end old.bounds.items
  pub path : new.path.items ≡ old.path.items
  pub next : new.next ≡ old.next + 1
  pub fits : old.next + 1 < 2 ^ 32

-- The last part begins here, and its classes stand above themselves.
pub record ClosesPart (bound : ℕ) (old new : Walk) : Type 0 where
  pub found : new.found.items ≡ all_cyclic old.found.items (drop bound old.stack.items)
  pub looked : new.looked.items ≡ old.looked.items
  pub stack : new.stack.items ≡ take bound old.stack.items
  pub bounds : new.bounds.items ≡ without_end old.bounds.items
  pub path : new.path.items ≡ old.path.items
  pub next : new.next ≡ old.next

-- A super was met: it is entered if it is new, joined with what stands behind it if it is open, and
-- else nothing is done.
pub data Meets (c : ℕ) (old new : Walk) : Type 0 where
  enters : slice_get old.found.items c ≡ Some New → Enters c old new → Meets c old new
  joins :
      (p : ℕ) → slice_get old.found.items c ≡ Some (Open p) → Joins p old new → Meets c old new
  passes : is_closed (slice_get old.found.items c) ≡ true → new ≡ old → Meets c old new

-- One super more of a class was looked at.
pub record Counts (a n : ℕ) (old new : Walk) : Type 0 where
  pub found : new.found.items ≡ old.found.items
  pub looked : new.looked.items ≡ slice_set old.looked.items a (n + 1)
  pub stack : new.stack.items ≡ old.stack.items
  pub bounds : new.bounds.items ≡ old.bounds.items
  pub path : new.path.items ≡ old.path.items
  pub next : new.next ≡ old.next

-- The last place of the path, and where the last part begins.
abbrev pub IsLast : ℕ → List ℕ → Type 0
IsLast n ns = slice_get ns (length ns - 1) ≡ Some n

-- A class that isn't met now wasn't met before.
abbrev pub KeepsMet : Walk → Walk → Type 0
KeepsMet old new = (x : ℕ) → slice_get new.found.items x ≡ Some New → slice_get old.found.items x ≡ Some New

-- A class was met.
abbrev pub IsMet : ℕ → Walk → Type 0
IsMet x w = slice_get w.found.items x ≡ Some New → ⊥

-- The walk over so many classes before its first step.
pub record IsStart (count : ℕ) (w : Walk) : Type 0 where
  pub found : w.found.items ≡ replicate count New
  pub looked : w.looked.items ≡ replicate count 0
  pub stack : w.stack.items ≡ []
  pub bounds : w.bounds.items ≡ []
  pub path : w.path.items ≡ []
  pub next : w.next ≡ 0

-- The walk at its end: no class is open, and each was met.
pub record IsEnd (g : List Links) (w : Walk) : Type 0 where
  pub walk : IsWalkOf g w
  pub none : length w.stack.items ≡ 0
  pub met : (x : ℕ) → x < length g → IsMet x w
