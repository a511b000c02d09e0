-- What calls that read parts of a history by number give (this project's own).
use Rattle.std.specs.Prelude.{◌≡◌, ◌<◌, ℕ, Bool, false, nat_lt, List, ◌∷◌, length, map, Option}
use Rattle.std.specs.Prelude.{Some, None, IfSome, Result, Ok, Err, slice_get, All}
use Rattle.std.specs.Option.{option_map_or}
use Rattle.codec_rules.specs.Input.{Input}
use Rattle.codec_rules.specs.Meets.{Fails}
use Rattle.program_rules.specs.Names.{Name}
use Rattle.class_model.specs.declared.outcome.Cause.{Cause}
use Rattle.class_model.specs.declared.outcome.Cause.TheVariants.{Returned, Thrown}
use Rattle.class_model.specs.declared.outcome.Outcome.TheVariants.{Failed}
use Rattle.history_rules.specs.declared.fault.HistoryFault.{HistoryFault}
use Rattle.history_rules.specs.declared.fault.HistoryFault.TheVariants.{Memory}
use Rattle.history_rules.specs.Items.{FileReader}
use Rattle.history_rules.specs.Entries as history
use Rattle.history_rules.specs.Entries.{Used, is_present}
use Rattle.history_rules.specs.Histories.{used_behind}
use Rattle.history_file.specs.declared.row.End.{End}
use Rattle.history_file.specs.declared.row.Entry.{Entry}
use Rattle.history_file.specs.declared.row.Row.{Row}
use Rattle.record_rules.specs.declared.record.RunRecord.{RunRecord}
use Rattle.history_file.specs.declared.texts.Texts.{Texts}
use Rattle.history_file.specs.Rows.{name_of, outcome_of, entry_of, record_of, IsEntry, IsRow}
use Rattle.history_file.specs.Texts.{texts_of, Grown, Marked, KeepsMarks}

-- ---- one name

-- The call read what the definition reads, told by the numbers of names that are there behind it.
abbrev pub ReadsUnder :
    {A X : Type 0} → (List (List ℕ) → X → A) → FileReader A → Texts → Input → Input →
    Result X HistoryFault → Type 0
ReadsUnder view read new from to (Ok x) = read from ≡ Ok (view (texts_of new) x, to)
ReadsUnder view read new from to (Err fault) = Fails Memory fault (read from)

-- The name of a number that stands with a place.
abbrev pub placed_name : List (List ℕ) → ℕ × ℕ → Name
placed_name texts x = name_of texts x.0

-- What was told has numbers of names that are there, and no mark of the record was lost.
pub record Told (old : Texts) (new : Texts) (P : ℕ → Type 0) : Type 0 where
  pub within : P (length (texts_of new))
  pub grown : Grown old new
  pub marks : KeepsMarks old new

-- Why a test failed, by the number of the name of what was thrown, if anything was.
abbrev pub cause_of : List (List ℕ) → Option ℕ → Cause
cause_of texts None = Returned
cause_of texts (Some k) = Thrown (name_of texts k)

-- The number of the name of what was thrown, if anything was, is of one that is there.
abbrev pub ToldCause : Texts → Texts → Option ℕ → Type 0
ToldCause old new cause = Told old new (λ n. IfSome cause (λ k. k < n))

-- The end is that of a test that failed for this cause.
abbrev pub IsFailedBy : Option ℕ → End → Type 0
IsFailedBy cause end =
    (texts : List (List ℕ)) → outcome_of texts end ≡ Failed (cause_of texts cause)

-- ---- consulted names

abbrev pub names_of : List (List ℕ) → List ℕ → List Name
names_of texts numbers = map (name_of texts) numbers

-- What is known before an entry: how many classes count as used, and the numbers of the record's
-- names.
abbrev pub used_with : List (List ℕ) → ℕ → List ℕ → Used
used_with texts used numbers = record { classes = used; names = names_of texts numbers }

-- The entry is told, and its name is marked as one of the record.
pub record EntryTold
    (pool : List (List ℕ)) (stamp : ℕ) (numbers : List ℕ) (old : Texts) (new : Texts) (e : Entry) :
    Type 0 where
  pub entry : IsEntry (length (texts_of new)) (length pool) e
  pub grown : Grown old new
  pub marked : Marked new stamp (e.name ∷ numbers)

-- The name of an entry, likewise.
pub record NameTold (stamp : ℕ) (numbers : List ℕ) (old : Texts) (new : Texts) (k : ℕ) :
    Type 0 where
  pub within : k < length (texts_of new)
  pub grown : Grown old new
  pub marked : Marked new stamp (k ∷ numbers)

-- Entries are told, and all their names are marked.
pub record EntriesTold
    (pool : List (List ℕ)) (earlier : ℕ) (later : ℕ) (stamp : ℕ) (old : Texts) (new : Texts)
    (es : List Entry) : Type 0 where
  pub entries : All (IsEntry (length (texts_of new)) (length pool)) es
  pub grown : Grown old new
  pub numbers : List ℕ
  pub marked : Marked new stamp numbers
  pub used : later ≡ used_behind pool earlier (map (entry_of (texts_of new) pool) es)

abbrev pub entries_of : List (List ℕ) → List (List ℕ) → List Entry → List history.Entry
entries_of pool texts es = map (entry_of texts pool) es

abbrev pub entry_under : List (List ℕ) → List (List ℕ) → Entry → history.Entry
entry_under pool texts e = entry_of texts pool e

-- ---- reached lines

-- The entry at a place has a class.
abbrev pub has_class_at : List Entry → ℕ → Bool
has_class_at es k = option_map_or (λ (e : Entry). nat_lt 0 e.class) (slice_get es k) false

-- Entries have classes where these numbers say so.
abbrev pub ArePresent : List history.Entry → List Entry → Type 0
ArePresent entries es = (k : ℕ) → is_present entries k ≡ has_class_at es k

-- ---- records

abbrev pub record_under : List (List ℕ) → List (List ℕ) → Row → RunRecord
record_under pool texts r = record_of texts pool r

-- A record is told, and counts its classes as used.
pub record RecordTold
    (pool : List (List ℕ)) (earlier : ℕ) (later : ℕ) (stamp : ℕ) (old : Texts) (new : Texts)
    (r : Row) : Type 0 where
  pub row : IsRow (length (texts_of new)) (length pool) r
  pub grown : Grown old new
  pub numbers : List ℕ
  pub marked : Marked new stamp numbers
  pub used : later ≡ used_behind pool earlier (entries_of pool (texts_of new) r.consulted)
