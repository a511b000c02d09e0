-- The lines that a run reached by its record, with the numbers of their classes in a program (this
-- project's own).
use Rattle.std.specs.Prelude.{◌≡◌, ℕ, List, map, Option, option_map}
use Rattle.std.specs.List.{flat_map}
use Rattle.std.specs.Option.{option_map_or, option_to_list}
use Rattle.class_model.specs.Text.{units_of}
use Rattle.class_model.specs.declared.class.ClassId.{ClassId}
use Rattle.class_link.specs.Info.{Info}
use Rattle.class_table.specs.Table.{number_of}
use Rattle.program_rules.specs.Names.{Name}
use Rattle.record_rules.specs.declared.record.RunRecord.{RunRecord}
use Rattle.history_rules.specs.Entries as history
use Rattle.history_file.specs.declared.row.Entry.{Entry}
use Rattle.history_file.specs.Rows.{name_of, name_or_empty}
use Rattle.line_coverage.specs.Coverage.{Covered, Covers}
use Rattle.suite_workers.specs.Below.{name_at}
use Rattle.suite_workers.specs.Said.{known_record}
use Rattle.suite_workers.specs.declared.said.KnownRun.{KnownRun}

abbrev pub class_id : ℕ → ClassId
class_id k = record { 0 = k }

module _ (p : List Info) where
  -- The class of a name.
  abbrev pub class_named : Name → Option ClassId
  class_named name = option_map class_id (number_of p name)

  -- Those that texts name, and those that entries of a history with these texts name.
  abbrev pub classes_named : List (List ℕ) → List (Option ClassId)
  classes_named texts = map (λ t. class_named (name_or_empty (units_of t))) texts

  abbrev pub classes_of : List (List ℕ) → List Entry → List (Option ClassId)
  classes_of texts es = map (λ e. class_named (name_of texts e.name)) es

  abbrev pub classes_in : List history.Entry → List (Option ClassId)
  classes_in es = map (λ e. class_named e.0) es

  -- A line that was reached, unless the program has no class of this name.
  abbrev pub line_in : RunRecord → ℕ × ℕ → List (ClassId × ℕ)
  line_in r x = option_to_list (option_map (λ c. (c, x.1)) (class_named (name_at r x.0)))

  abbrev pub lines_in : RunRecord → List (ClassId × ℕ)
  lines_in r = flat_map (line_in r) r.reached

  -- The coverage is that of runs of which this is known, one for each test.
  abbrev pub CoversKnown : List KnownRun → Covered → Type 0
  CoversKnown runs cover = Covers (map (λ k. lines_in (known_record k)) runs) cover
