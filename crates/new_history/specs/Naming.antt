-- Records by number, where the names that they name stand as code units (this project's own).
use Rattle.std.specs.Prelude.{◌≡◌, ℕ, List, map, Some, slice_get}
use Rattle.class_model.specs.Text.{units_of}
use Rattle.class_model.specs.declared.outcome.Cause.TheVariants as cause
use Rattle.class_model.specs.declared.outcome.Outcome.{Outcome}
use Rattle.class_model.specs.declared.outcome.Outcome.TheVariants as outcome
use Rattle.program_rules.specs.Names.{Name}
use Rattle.record_rules.specs.declared.record.RunRecord.{RunRecord}
use Rattle.history_rules.specs.Classes.{class_of}
use Rattle.history_rules.specs.Entries as history
use Rattle.history_file.specs.declared.row.End.{End}
use Rattle.history_file.specs.declared.row.End.TheVariants as end
use Rattle.history_file.specs.declared.row.Entry.{Entry}
use Rattle.history_file.specs.declared.row.Row.{Row}
use Rattle.history_file.specs.Rows.{name_or_empty}

-- The names that texts spell; one that spells none is empty.
abbrev pub names_of : List (List ℕ) → List Name
names_of texts = map (λ t. name_or_empty (units_of t)) texts

-- The texts spell these names.
abbrev pub Spell : List (List ℕ) → List Name → Type 0
Spell texts names = map units_of texts ≡ map Some names

abbrev pub name_at : List Name → ℕ → Name
name_at names k = name_or_empty (slice_get names k)

abbrev pub outcome_by : List Name → End → Outcome
outcome_by names end.Passed = outcome.Passed
outcome_by names end.Returned = outcome.Failed cause.Returned
outcome_by names (end.Thrown k) = outcome.Failed (cause.Thrown (name_at names k))
outcome_by names end.TimedOut = outcome.TimedOut
outcome_by names end.MemoryOut = outcome.MemoryOut

abbrev pub entry_by : List Name → List (List ℕ) → Entry → history.Entry
entry_by names classes e = (name_at names e.name, class_of classes e.class)

-- The record that a row is.
abbrev pub record_by : List Name → List (List ℕ) → Row → RunRecord
record_by names classes r = record {
  test_class = name_at names r.test_class;
  test_method = name_at names r.test_method;
  heap = r.heap;
  depth = r.depth;
  limit = r.limit;
  outcome = outcome_by names r.end;
  steps = r.steps;
  consulted = map (entry_by names classes) r.consulted;
  reached = r.reached;
}
