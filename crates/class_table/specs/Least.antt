-- The class with the least name among those that are marked (this project's own).
use Rattle.std.specs.Prelude.{◌≡◌, ℕ, ◌<◌, Bool, true, false, if◌then◌else◌, List, Option, Some, None, slice_get, IsTrue}
use Rattle.std.specs.Ordering.{nat_cmp, is_lt, is_le}
use Rattle.std.specs.Cmp.Lexicographic.{slice_cmp}
use Rattle.class_model.specs.Text.{text}
use Rattle.program_rules.specs.Names.{Name}
use Rattle.class_table.specs.declared.least.Least.{Least}
use Rattle.class_table.specs.Numbers.{name_of}

-- A class is marked.
abbrev pub IsMarked : List Bool → ℕ → Type 0
IsMarked marks at = slice_get marks at ≡ Some true

-- These bytes aren't behind those of a name.
abbrev pub IsBelow : List ℕ → Name → Type 0
IsBelow bytes n = IsTrue (is_le (slice_cmp nat_cmp bytes (text n)))

-- A marked class, with the bytes of its name, which are not behind those of another marked one.
pub record IsLeastOf (ns : List Name) (marks : List Bool) (count : ℕ) (l : Least) : Type 0 where
  pub marked : IsMarked marks l.at
  pub within : l.at < count
  pub bytes : l.bytes ≡ text (name_of ns l.at)
  pub least : (k : ℕ) → k < count → IsMarked marks k → IsBelow l.bytes (name_of ns k)

-- Of so many classes the least that is marked, or none is.
abbrev pub IsLeastSoFar : List Name → List Bool → ℕ → Option Least → Type 0
IsLeastSoFar ns marks count None = (k : ℕ) → k < count → IsMarked marks k → ⊥
IsLeastSoFar ns marks count (Some l) = IsLeastOf ns marks count l

-- The lesser of two classes.
abbrev pub lesser_at : Option Least → ℕ → Name → Least
lesser_at None at n = record { at = at; bytes = text n }
lesser_at (Some l) at n =
    if is_lt (slice_cmp nat_cmp (text n) l.bytes) then record { at = at; bytes = text n } else l

-- The lesser of a class and this one, if this one has a mark.
abbrev pub considered : Bool → Option Least → ℕ → Name → Option Least
considered false least at n = least
considered true least at n = Some (lesser_at least at n)

-- This is the least name of a marked class.
pub record IsLeastName (ns : List Name) (marks : List Bool) (n : Name) : Type 0 where
  pub place : ℕ
  pub marked : IsMarked marks place
  pub there : slice_get ns place ≡ Some n
  pub least :
      (k : ℕ) (m : Name) → slice_get ns k ≡ Some m → IsMarked marks k → IsBelow (text n) m

-- The least name of a marked class, if one is marked.
abbrev pub IsLeastMarked : List Name → List Bool → Option Name → Type 0
IsLeastMarked ns marks None = (k : ℕ) (m : Name) → slice_get ns k ≡ Some m → IsMarked marks k → ⊥
IsLeastMarked ns marks (Some n) = IsLeastName ns marks n
