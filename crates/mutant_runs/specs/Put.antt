-- One class of a program in the place of another one that says the same of itself but for its
-- methods' code.
use Rattle.std.specs.Prelude.{◌≡◌, ℕ, List, Some, slice_get, slice_set}
use Rattle.program_rules.specs.Programs.{Look}
use Rattle.class_link.specs.declared.loaded.ClassBody.TheVariants as body
use Rattle.class_link.specs.declared.loaded.EditedFile.{EditedFile}
use Rattle.class_link.specs.Edits.{AddsAlone}
use Rattle.class_link.specs.Info.{Info, IsInfo, class_of}
use Rattle.class_table.specs.Table.{look, IsProgram, IsAlike, CanSwap}
use Rattle.type_laws.specs.Alike.{HeadsAlike, OthersAlike}

-- A class that is what its body means takes the place of the one of this number, which has its
-- name, superclass and interfaces (`CanSwap` of `class_table`), and its flags.
pub record IsPut (p : List Info) (id : ℕ) (old new : Info) : Type 0 where
  pub there : slice_get p id ≡ Some old
  pub alike : IsAlike old new
  pub flags : (class_of new).flags ≡ (class_of old).flags
  pub meant : IsInfo new

-- The program with the other class.
abbrev pub put : List Info → ℕ → Info → Look
put p id new = look (slice_set p id new)

-- ---- the class of an edit

-- The class of this number is of a class file, and the other one of an edit of that file which adds
-- entries that change the meaning of nothing else.
pub record IsEditOf (p : List Info) (id : ℕ) (e : EditedFile) (old new : Info) : Type 0 where
  pub there : slice_get p id ≡ Some old
  pub file : old.body ≡ body.File e.original
  pub edited : new.body ≡ body.Edited e
  pub alone : AddsAlone e
  pub meant : IsInfo new

-- It takes the place of that class.
abbrev pub EditsArePut : Type 0
EditsArePut =
    (p : List Info) (id : ℕ) (e : EditedFile) (old new : Info) → IsProgram p →
    IsEditOf p id e old new → IsPut p id old new

-- ---- what stays

-- The two programs say the same of each class but its code, and of all others the same; and the
-- code's `swap` takes the class.
pub record StaysAlike (p : List Info) (id : ℕ) (old new : Info) : Type 0 where
  pub heads : HeadsAlike (look p) (put p id new)
  pub others : OthersAlike (look p) (put p id new) old.name
  pub swaps : CanSwap p id new

abbrev pub PutStayAlike : Type 0
PutStayAlike =
    (p : List Info) (id : ℕ) (old new : Info) → IsPut p id old new → StaysAlike p id old new
