-- What calls that write records by number ask and give (this project's own).
use Rattle.std.specs.Prelude.{◌≡◌, ◌<◌, ◌≤◌, ◌+◌, ◌^◌, ℕ, zero, suc, List, [], ◌∷◌, length, map, Some}
use Rattle.std.specs.Prelude.{All, Result, slice_get, slice_index, if◌then◌else◌}
use Rattle.codec_rules.specs.Meets.{Gives}
use Rattle.program_rules.specs.Names.{is_listed}
use Rattle.record_rules.specs.declared.record.RunRecord.{RunRecord}
use Rattle.history_rules.specs.Items.{IsText, AllBy}
use Rattle.history_rules.specs.Classes.{with_class, class_of, number_of, place_of}
use Rattle.history_rules.specs.Spelling.{IsRecord}
use Rattle.history_rules.specs.declared.fault.HistoryFault.{HistoryFault}
use Rattle.history_rules.specs.declared.fault.HistoryFault.TheVariants.{Memory}
use Rattle.history_rules.specs.Histories.{Contents, written}
use Rattle.history_rules.specs.Laws.{AreDifferent}
use Rattle.history_file.specs.declared.order.Order.{Order}
use Rattle.history_file.specs.declared.row.Entry.{Entry}
use Rattle.history_file.specs.declared.row.End.{End}
use Rattle.history_file.specs.declared.row.Row.{Row}
use Rattle.history_file.specs.Rows.{IsTextBehind, IsRow, IsEnd, name_of, record_of}

-- Names in modified UTF-8, each once.
abbrev pub AreNames : List (List ℕ) → Type 0
AreNames texts = AllBy IsTextBehind with_class [] texts

-- ---- numbers of classes

abbrev pub classes_of : Order → List (List ℕ)
classes_of o = map (λ s. s.now) o.classes.now

-- The classes that are used, in order of first use.
abbrev pub used_by : Order → List (List ℕ)
used_by o = map (λ s. s.now) o.used

-- How many of these are zero.
abbrev pub zeros : List ℕ → ℕ
zeros [] = zero
zeros (zero ∷ ns) = suc (zeros ns)
zeros (suc n ∷ ns) = zeros ns

-- Each class that is used has its number among the used ones, and the others have none.
pub record IsOrder (o : Order) : Type 0 where
  pub different : AreDifferent (classes_of o)
  pub few : length (classes_of o) < 2 ^ 32
  pub len : length o.numbers.items ≡ length (classes_of o)
  pub numbers :
      (k : ℕ) (class : List ℕ) → slice_get (classes_of o) k ≡ Some class →
      slice_index o.numbers.items k
      ≡ (if is_listed class (used_by o) then suc (place_of (used_by o) class) else 0)
  pub unused : zeros o.numbers.items + length (used_by o) ≡ length (classes_of o)

-- More classes are used, of the same ones.
pub record UsesMore (old : Order) (new : Order) (pool : List (List ℕ)) : Type 0 where
  pub order : IsOrder new
  pub classes : classes_of new ≡ classes_of old
  pub used : used_by new ≡ pool

-- The lengths of classes have four bytes.
abbrev pub AreShort : List (List ℕ) → Type 0
AreShort classes = All (λ (c : List ℕ). length c < 2 ^ 32) classes

-- No class number is past these classes.
abbrev pub AreEntries : ℕ → List Entry → Type 0
AreEntries classes es = All (λ (e : Entry). e.class ≤ classes) es

-- Names of entries are among these.
abbrev pub AreTextEntries : ℕ → List Entry → Type 0
AreTextEntries texts es = All (λ (e : Entry). e.name < texts) es

abbrev pub AreRows : ℕ → List Row → Type 0
AreRows classes rows = All (λ (r : Row). AreEntries classes r.consulted) rows

-- The records that rows are.
abbrev pub records_in : List (List ℕ) → List (List ℕ) → List Row → List RunRecord
records_in texts classes rows = map (record_of texts classes) rows

-- ---- what has a spelling

-- A name whose text has a length of two bytes.
abbrev pub IsTextNumber : List (List ℕ) → ℕ → Type 0
IsTextNumber texts k = (k < length texts) × IsText (name_of texts k)

abbrev pub IsEndNumber : List (List ℕ) → End → Type 0
IsEndNumber texts end = IsEnd (length texts) end

-- The class of an entry is among those that are used.
pub record IsWrittenEntry (texts : List (List ℕ)) (o : Order) (e : Entry) : Type 0 where
  pub name : IsTextNumber texts e.name
  pub class : e.class ≤ length (classes_of o)
  pub number : number_of (used_by o) (class_of (classes_of o) e.class) ≤ length (used_by o)

-- The record of a row has the form of a history, under the classes that are used.
pub record IsWrittenRow (texts : List (List ℕ)) (o : Order) (r : Row) : Type 0 where
  pub row : IsRow (length texts) (length (classes_of o)) r
  pub used : ℕ
  pub form : IsRecord 2 (used_by o) used (record_of texts (classes_of o) r)

-- ---- the whole

-- A call gives the one text of records, or that it is too long, or runs out of memory.
abbrev pub GivesText : ℕ → List RunRecord → Result (List ℕ) HistoryFault → Type 0
GivesText profile records result = Gives Memory (λ bytes. bytes) (written profile records) result

abbrev pub contents_under :
    ℕ → List (List ℕ) → List RunRecord → Contents
contents_under profile classes records = record {
  version = 2;
  profile = profile;
  classes = classes;
  records = records;
}
