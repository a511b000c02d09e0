-- The rows of the records that are needed (this project's own).
use Rattle.std.specs.Prelude.{◌≡◌, ◌++◌, ℕ, List, map, sum_by, All}
use Rattle.program_rules.specs.Names.{Name}
use Rattle.history_file.specs.declared.row.Row.{Row}
use Rattle.history_file.specs.Rows.{Numbered}
use Rattle.new_history.specs.declared.needed.Needed.{Needed}
use Rattle.new_history.specs.declared.numbering.Numbering.{Numbering}
use Rattle.new_history.specs.Naming.{names_of, Spell}
use Rattle.new_history.specs.Needed.{kept_by, IsNeeded}
use Rattle.new_history.specs.Needed as needed
use Rattle.new_history.specs.Numbering.{Takes, RowBy, RowsBy, names_in, classes_in}

-- The numbers of an old history stand for what they stand for there.
pub record BeginsWith (n : Numbered) (by : Numbering) : Type 0 where
  pub spell : Spell n.texts (names_of n.texts)
  pub more_names : List Name
  pub names : names_in by ≡ names_of n.texts ++ more_names
  pub more_classes : List (List ℕ)
  pub classes : classes_in by ≡ n.classes ++ more_classes

-- A record that is needed has this row.
pub record NumbersNeeded (x : Needed) (old new : Numbering) (r : Row) : Type 0 where
  pub took : Takes (needed.names_in x) old new
  pub row : (n : Numbered) → BeginsWith n old → IsNeeded n x → RowBy new (kept_by n x).entry r

pub record NumbersAll (xs : List Needed) (old new : Numbering) (rs : List Row) : Type 0 where
  pub took : Takes (sum_by needed.names_in xs) old new
  pub rows :
      (n : Numbered) → BeginsWith n old → All (IsNeeded n) xs →
      RowsBy new (map (λ k. k.entry) (map (kept_by n) xs)) rs
