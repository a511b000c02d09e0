-- The records of the runs that a job needs, by where they come from (this project's own).
use Rattle.std.specs.Prelude.{ℕ, ◌+◌, length, Bool, true, false}
use Rattle.record_rules.specs.Histories.{Kept}
use Rattle.record_rules.specs.Jobs.{with_limit}
use Rattle.history_rules.specs.Fitting.{FitsFields}
use Rattle.history_file.specs.Rows.{Numbered, record_of, IsRow}
use Rattle.new_history.specs.declared.needed.Needed.{Needed}
use Rattle.new_history.specs.declared.needed.Needed.TheVariants.{Old, Made}

-- The record, and whether it is one of the old history, which then has the run's limit.
abbrev pub kept_by : Numbered → Needed → Kept
kept_by n (Old row limit) = record {
  entry = with_limit limit (record_of n.texts n.classes row.now);
  is_old = true;
}
kept_by n (Made r) = record { entry = r.now; is_old = false }

-- A row is one of the old history; a record that was made fits the fields of a history.
abbrev pub IsNeeded : Numbered → Needed → Type 0
IsNeeded n (Old row limit) = IsRow (length n.texts) (length n.classes) row.now
IsNeeded n (Made r) = FitsFields r.now

-- How many names it may add, and classes: its test has two, its outcome one.
abbrev pub names_in : Needed → ℕ
names_in (Old row limit) = 0
names_in (Made r) = length r.now.consulted + 3

-- A record that was made fits the fields of a history.
abbrev pub FitsMade : Needed → Type 0
FitsMade (Old row limit) = Unit {0}
FitsMade (Made r) = FitsFields r.now

abbrev pub is_old : Needed → Bool
is_old (Old row limit) = true
is_old (Made r) = false
