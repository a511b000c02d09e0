-- What a journal gains where a record is added (this project's own).
use Rattle.std.specs.Prelude.{◌≡◌, ◌≤◌, ◌<◌, ◌^◌, ℕ, suc, List, [], ◌∷◌, ◌++◌, length, Option, Some, None}
use Rattle.std.specs.Prelude.{if◌then◌else◌}
use Rattle.std.specs.List.{AllByRecursion}
use Rattle.program_rules.specs.Names.{is_listed}
use Rattle.record_rules.specs.declared.record.RunRecord.{RunRecord}
use Rattle.history_rules.specs.Items.{IsText}
use Rattle.history_rules.specs.Classes.{place_of, number_of}
use Rattle.history_rules.specs.Entries.{Entry}
use Rattle.history_rules.specs.Histories.{class_put, classes_used}
use Rattle.history_rules.specs.Laws.{IsFormed}
use Rattle.run_journal.specs.Entries.{entry_bytes, good_entry}
use Rattle.run_journal.specs.Contents.{Run, Known, item_of, class_content, record_content}
use Rattle.run_journal.specs.Reading.{reading_of, IsWhole}

-- The number of a class in a journal, if it stands there: that of the first of equal ones.
abbrev pub first_number : List (List ℕ) → List ℕ → Option ℕ
first_number classes class =
    if is_listed class classes then Some (suc (place_of classes class)) else None

-- ---- the bytes

-- An entry for a class that isn't there.
abbrev pub class_entry : List (List ℕ) → Option (List ℕ) → List ℕ
class_entry classes None = []
class_entry classes (Some class) =
    if is_listed class classes then [] else entry_bytes (good_entry (class_content class))

-- Entries for all classes of a record that aren't there.
abbrev pub class_entries : List (List ℕ) → List Entry → List ℕ
class_entries classes [] = []
class_entries classes (e ∷ es) =
    class_entry classes e.1 ++ class_entries (class_put classes e.1) es

-- Behind them the record.
abbrev pub added_bytes : List (List ℕ) → RunRecord → List ℕ
added_bytes classes r =
    class_entries classes r.consulted
    ++ entry_bytes (good_entry (record_content (classes_used classes r.consulted) r))

abbrev pub known_with : Known → RunRecord → Known
known_with known r = record {
  classes = classes_used known.classes r.consulted;
  records = known.records ++ r ∷ [];
}

-- ---- what is asked of the record

-- Each class of its names is among these.
abbrev pub HasNumber : List (List ℕ) → Entry → Type 0
HasNumber classes e = number_of classes e.1 ≤ length classes

-- An entry can be written.
abbrev pub IsWritten : List (List ℕ) → Entry → Type 0
IsWritten classes e = IsText e.0 × HasNumber classes e

abbrev pub HasNumbers : List (List ℕ) → RunRecord → Type 0
HasNumbers classes r = AllByRecursion (HasNumber classes) r.consulted

-- ---- the laws

-- A record under classes with all of its own is read as it is written.
abbrev pub RecordIsRead : Type 0
RecordIsRead =
    (classes : List (List ℕ)) (r : RunRecord) → length classes < 2 ^ 32 → IsFormed r →
    HasNumbers classes r → item_of classes (record_content classes r) ≡ Some (Run 2 r)

-- So records that are written alike are equal.
abbrev pub WrittenTellsRecords : Type 0
WrittenTellsRecords =
    (classes : List (List ℕ)) (a b : RunRecord) → length classes < 2 ^ 32 → IsFormed a →
    IsFormed b → HasNumbers classes a → HasNumbers classes b →
    record_content classes a ≡ record_content classes b → a ≡ b

-- What is added to a whole journal makes a whole one that says the record, too.
abbrev pub AddedIsRead : Type 0
AddedIsRead =
    (profile : ℕ) (bytes : List ℕ) (r : RunRecord) → IsFormed r →
    length (classes_used (reading_of profile bytes).known.classes r.consulted) < 2 ^ 32 →
    IsWhole (reading_of profile bytes) →
    IsWhole (reading_of profile (bytes ++ added_bytes (reading_of profile bytes).known.classes r))
    × ((reading_of profile (bytes ++ added_bytes (reading_of profile bytes).known.classes r)).known
    ≡ known_with (reading_of profile bytes).known r)
