-- What stands above a class, the class itself left out.
use Rattle.std.specs.Prelude.{◌≡◌, ◌<◌, ℕ, Bool, false, if◌then◌else◌}
use Rattle.std.specs.Prelude.{List, Some, slice_get, length}
use Rattle.std.specs.List.{list_any}
use Rattle.program_rules.specs.Names.{Name, same, is_listed}
use Rattle.program_rules.specs.Programs.{Look, supers}
use Rattle.class_link.specs.Info.{Info}
use Rattle.class_table.specs.Table.{look, name_at}
use Rattle.jvm_marks.specs.Marks.{is_among}

-- Whether the second class stands above the first one.
abbrev pub is_above : Look → Name → Name → Bool
is_above p n m = if same n m then false else is_listed m (supers p n)

-- Whether a class stands above one of these.
abbrev pub is_above_any : List Info → List ℕ → Name → Bool
is_above_any p ids m = list_any (λ b. is_above (look p) (name_at p b) m) ids

-- These are classes of the program.
abbrev pub AreWithin : List Info → List ℕ → Type 0
AreWithin p ids = (k b : ℕ) → slice_get ids k ≡ Some b → b < length p

-- A class of the program is among those that were found where it stands above one of these.
pub record AreAbove (p : List Info) (ids found : List ℕ) : Type 0 where
  pub within : AreWithin p found
  pub above : (c : ℕ) → c < length p → is_among c found ≡ is_above_any p ids (name_at p c)
