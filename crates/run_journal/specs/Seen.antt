-- The names that stand in a record before the next one (this project's own).
use Rattle.std.specs.Prelude.{◌≡◌, ◌-◌, ℕ, List, [], ◌∷◌, length, map, Option}
use Rattle.std.specs.List.{AllByRecursion}
use Rattle.class_model.specs.Text.{IsUnits, text}
use Rattle.codec_rules.specs.Input.{Input}
use Rattle.codec_rules.specs.Reading.{with_front}
use Rattle.program_rules.specs.Names.{Name}
use Rattle.history_rules.specs.Items.{many_by}
use Rattle.history_rules.specs.Entries.{Entry, Used, entry_at, with_entry}
use Rattle.history_file.specs.declared.slices.Slices.{Slices}
use Rattle.history_file.specs.Texts.{HasSlices}

-- The texts of these names are in the set, and no others.
pub record HasTexts (seen : Slices) (names : List Name) : Type 0 where
  pub units : AllByRecursion IsUnits names
  pub texts : HasSlices seen (map text names)

-- All classes of a journal count as used.
abbrev pub used_all : List (List ℕ) → List Name → Used
used_all classes names = record { classes = length classes; names = names }

-- So many entries of a record are read.
pub record HalfEntries
    (classes : List (List ℕ)) (count : ℕ) (i : ℕ) (from : Input) (to : Input) (seen : Slices)
    (entries : List Entry) : Type 0 where
  pub names : List Name
  pub has : HasTexts seen names
  pub total :
      with_front entries (many_by (entry_at classes) (with_entry classes) (used_all classes names)
      (count - i) to)
      ≡ many_by (entry_at classes) (with_entry classes) (used_all classes []) count from
