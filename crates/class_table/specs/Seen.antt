-- What a run has consulted.
use Rattle.std.specs.Prelude.{◌≡◌, ℕ, Bool, true, ⊤, List, [], ◌∷◌, length, slice_get, Some}
use Rattle.program_rules.specs.Names.{Name}
use Rattle.program_rules.specs.Programs.{Look, supers_within, is_known}
use Rattle.class_link.specs.Info.{Info}
use Rattle.class_table.specs.Table.{look, name_at}

-- The names in order of first use, and for each class of the program whether it was consulted with
-- all above it.
pub record Seen : Type 0 where
  pub names : List Name
  pub marks : List Bool

-- All of these names were consulted, or are of the library.
abbrev pub AreKnown : Look → List Name → List Name → Type 0
AreKnown p ns [] = ⊤
AreKnown p ns (m ∷ ms) = (is_known p ns m ≡ true) × AreKnown p ns ms

-- The names of a class and of all above it are known, however many levels of it are looked at.
abbrev pub AreKnownAbove : List Info → List Name → Name → Type 0
AreKnownAbove p ns n = (levels : ℕ) → AreKnown (look p) ns (supers_within levels (look p) n)

-- Each class that is marked was consulted with all above it, however many levels of it are looked
-- at; and there is a mark for each class.
pub record IsConsultedOf (p : List Info) (c : Seen) : Type 0 where
  pub long : length c.marks ≡ length p
  pub marked :
      (i levels : ℕ) → slice_get c.marks i ≡ Some true →
      AreKnown (look p) c.names (supers_within levels (look p) (name_at p i))
