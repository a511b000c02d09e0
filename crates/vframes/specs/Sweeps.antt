-- The rows of an exception table that cover an instruction, while instructions are gone over in
-- order.
use Rattle.std.specs.Prelude.{◌≡◌, ◌≤◌, ◌<◌, ◌+◌, ℕ, Bool, true, ◌&&◌, ◌||◌, nat_le, nat_lt, List, [], ◌∷◌, ⊤, drop}
use Rattle.std.specs.List.{list_any}
use Rattle.std.specs.List.Sorted.{IsNonDecreasingBy}
use Rattle.vframes.specs.declared.handlers.Handler.{Handler}
use Rattle.vframes.specs.declared.sweep.Sweep.{Sweep}

-- Whether a row covers an instruction.
abbrev pub is_over : ℕ → Handler → Bool
is_over at h = nat_le h.start at && nat_lt at h.end

-- A test that only rows that cover an instruction pass.
abbrev pub IsOfOver : ℕ → (Handler → Bool) → Type 0
IsOfOver at p = (h : Handler) → p h ≡ true → is_over at h ≡ true

-- The rows that are open are those of all that cover an instruction.
abbrev pub AreOpen : List Handler → ℕ → List Handler → Type 0
AreOpen all at some =
    (p : Handler → Bool) → IsOfOver at p → list_any p some ≡ list_any p all

-- From an instruction on, rows that cover one are open or still to be opened.
abbrev pub AreLeft : List Handler → ℕ → List Handler → List Handler → Type 0
AreLeft all from some rest =
    (at : ℕ) (p : Handler → Bool) → from ≤ at → IsOfOver at p
    → (list_any p some || list_any p rest) ≡ list_any p all

-- So far instructions before this one were gone over.
pub record HasReached (all : List Handler) (from : ℕ) (w : Sweep) : Type 0 where
  pub left : AreLeft all from w.covering.items (drop w.next w.rows.items)
  pub rising : IsNonDecreasingBy (λ h. h.start) w.rows.items

-- Rows that begin behind an instruction.
abbrev pub AreAhead : ℕ → List Handler → Type 0
AreAhead at [] = ⊤
AreAhead at (h ∷ hs) = (at < h.start) × AreAhead at hs

-- What was reached is so still.
abbrev pub KeepsReached : ℕ → Sweep → Sweep → Type 0
KeepsReached at old new = (all : List Handler) → HasReached all at old → HasReached all at new

-- All rows were opened that begin at an instruction or before.
abbrev pub OpensAll : ℕ → Sweep → Sweep → Type 0
OpensAll at old new =
    (all : List Handler) → HasReached all at old → AreAhead at (drop new.next new.rows.items)

-- Those are open that cover an instruction, and what is reached is the next one.
abbrev pub GoesTo : ℕ → Sweep → Sweep → Type 0
GoesTo at old new =
    (all : List Handler) → HasReached all at old
    → AreOpen all at new.covering.items × HasReached all (at + 1) new
