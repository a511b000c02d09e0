-- Records by number: names and classes stand once, in lists, and records name them by their places
-- (this project's own).
use Rattle.std.specs.Prelude.{◌≡◌, ◌<◌, ◌≤◌, ◌^◌, ℕ, false, List, [], length, map, Option}
use Rattle.std.specs.Prelude.{Some, None, is_some, IsTrue, All, slice_get, option_and_then}
use Rattle.program_rules.specs.Names.{Name, is_listed}
use Rattle.class_model.specs.Text.{units_of}
use Rattle.class_model.specs.declared.outcome.Cause.TheVariants as cause
use Rattle.class_model.specs.declared.outcome.Outcome.{Outcome}
use Rattle.class_model.specs.declared.outcome.Outcome.TheVariants as outcome
use Rattle.record_rules.specs.declared.record.RunRecord.{RunRecord}
use Rattle.history_rules.specs.Items.{AllBy}
use Rattle.history_rules.specs.Classes.{class_of, with_class, IsClassBehind}
use Rattle.history_rules.specs.Entries as history
use Rattle.history_file.specs.declared.row.End.{End}
use Rattle.history_file.specs.declared.row.End.TheVariants as end
use Rattle.history_file.specs.declared.row.Entry.{Entry}
use Rattle.history_file.specs.declared.row.Row.{Row}

-- Names in modified UTF-8, classes, and the records that name them.
pub record Numbered : Type 0 where
  pub texts : List (List ℕ)
  pub classes : List (List ℕ)
  pub rows : List Row

-- ---- what numbers say

-- The name that bytes spell; none is empty.
abbrev pub name_or_empty : Option Name → Name
name_or_empty None = []
name_or_empty (Some name) = name

abbrev pub name_of : List (List ℕ) → ℕ → Name
name_of texts k = name_or_empty (option_and_then units_of (slice_get texts k))

abbrev pub outcome_of : List (List ℕ) → End → Outcome
outcome_of texts end.Passed = outcome.Passed
outcome_of texts end.Returned = outcome.Failed cause.Returned
outcome_of texts (end.Thrown k) = outcome.Failed (cause.Thrown (name_of texts k))
outcome_of texts end.TimedOut = outcome.TimedOut
outcome_of texts end.MemoryOut = outcome.MemoryOut

abbrev pub entry_of : List (List ℕ) → List (List ℕ) → Entry → history.Entry
entry_of texts classes e = (name_of texts e.name, class_of classes e.class)

-- The record that a row is.
abbrev pub record_of : List (List ℕ) → List (List ℕ) → Row → RunRecord
record_of texts classes r = record {
  test_class = name_of texts r.test_class;
  test_method = name_of texts r.test_method;
  heap = r.heap;
  depth = r.depth;
  limit = r.limit;
  outcome = outcome_of texts r.end;
  steps = r.steps;
  consulted = map (entry_of texts classes) r.consulted;
  reached = r.reached;
}

abbrev pub records_of : Numbered → List RunRecord
records_of n = map (record_of n.texts n.classes) n.rows

-- ---- numbers that say something

abbrev pub IsEnd : ℕ → End → Type 0
IsEnd texts (end.Thrown k) = k < texts
IsEnd texts other = Unit {0}

abbrev pub IsEntry : ℕ → ℕ → Entry → Type 0
IsEntry texts classes e = (e.name < texts) × (e.class ≤ classes)

-- Under so many names and classes each number of a row is that of one.
pub record IsRow (texts : ℕ) (classes : ℕ) (r : Row) : Type 0 where
  pub class : r.test_class < texts
  pub method : r.test_method < texts
  pub thrown : IsEnd texts r.end
  pub names : All (IsEntry texts classes) r.consulted

-- A text is a name's, and isn't one of those before.
abbrev pub IsTextBehind : List (List ℕ) → List ℕ → Type 0
IsTextBehind before text = IsTrue (is_some (units_of text)) × (is_listed text before ≡ false)

-- Names differ, classes differ, and each number is that of one. Of these and of the records there
-- are as many as numbers of four bytes can tell, which are those of the file.
pub record IsNumbered (n : Numbered) : Type 0 where
  pub texts : AllBy IsTextBehind with_class [] n.texts
  pub few_texts : length n.texts < 2 ^ 32
  pub classes : AllBy IsClassBehind with_class [] n.classes
  pub few_classes : length n.classes < 2 ^ 32
  pub few_rows : length n.rows < 2 ^ 32
  pub rows : All (IsRow (length n.texts) (length n.classes)) n.rows
