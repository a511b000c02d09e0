-- The text of a history (this project's own).
use Rattle.std.specs.Prelude.{◌≡◌, ◌<◌, ◌≤◌, ◌^◌, ℕ, max, min, Bool, true, false, not, ◌||◌, ◌==◌}
use Rattle.std.specs.Prelude.{nat_lt, List, [], ◌∷◌, ◌++◌, length, filter, Option, Some, None}
use Rattle.std.specs.Prelude.{Result, Ok, Err, if◌then◌else◌}
use Rattle.std.specs.Int.{w16, w32, to_be_bytes}
use Rattle.std.specs.List.{list_any}
use Rattle.codec_rules.specs.Input.{Input}
use Rattle.codec_rules.specs.Sequence.{◌>>=◌}
use Rattle.program_rules.specs.Names.{is_listed}
use Rattle.class_model.specs.declared.outcome.Outcome.{Outcome}
use Rattle.class_model.specs.declared.outcome.Outcome.TheVariants.{Failed}
use Rattle.record_rules.specs.declared.record.RunRecord.{RunRecord}
use Rattle.record_rules.specs.Histories.{same_record}
use Rattle.history_rules.specs.declared.fault.HistoryFault.{HistoryFault}
use Rattle.history_rules.specs.declared.fault.HistoryFault.TheVariants.{HistoryBad, TooLong}
use Rattle.history_rules.specs.Items.{FileReader, u2_at, u4_at, where_at, counted_by, counted_bytes}
use Rattle.history_rules.specs.Items.{AllBy, known_by}
use Rattle.history_rules.specs.Classes.{class_at, class_bytes, IsClassBehind, with_class, number_of}
use Rattle.history_rules.specs.Classes.{place_behind}
use Rattle.history_rules.specs.Entries.{Entry}
use Rattle.history_rules.specs.Reading.{record_at}
use Rattle.history_rules.specs.Spelling.{record_bytes, IsRecord}

-- ---- records one after the other

-- What is known before a record: the records before it, and how many classes count as used.
pub record Past : Type 0 where
  pub records : List RunRecord
  pub classes : ℕ

-- How many classes count as used behind these names.
abbrev pub used_behind : List (List ℕ) → ℕ → List Entry → ℕ
used_behind pool used [] = used
used_behind pool used (e ∷ es) = used_behind pool (max used (number_of pool e.1)) es

abbrev pub with_record : List (List ℕ) → Past → RunRecord → Past
with_record pool past r = record {
  records = r ∷ past.records;
  classes = used_behind pool past.classes r.consulted;
}

abbrev pub is_other : List RunRecord → RunRecord → Bool
is_other records r = not (list_any (same_record r) records)

-- A record that is equal to one before it is told at its first byte.
abbrev pub next_record_at : ℕ → List (List ℕ) → Past → FileReader RunRecord
next_record_at version pool past =
    where_at (record_at version pool past.classes) (is_other past.records)

abbrev pub IsNextRecord : ℕ → List (List ℕ) → Past → RunRecord → Type 0
IsNextRecord version pool past r =
    IsRecord version pool past.classes r × (is_other past.records r ≡ true)

abbrev pub no_past : Past
no_past = record { records = []; classes = 0 }

-- ---- the whole

-- What a history holds: its version, its profile number, its classes and its records.
pub record Contents : Type 0 where
  pub version : ℕ
  pub profile : ℕ
  pub classes : List (List ℕ)
  pub records : List RunRecord

abbrev pub magic : ℕ
magic = 0x4d544849

abbrev pub is_version : ℕ → Bool
is_version n = n == 1 || n == 2

unfoldable pub contents_at : FileReader Contents
contents_at input = do
  first ← where_at u4_at (λ n. n == magic) input
  version ← where_at u2_at is_version first.1
  profile ← u2_at version.1
  classes ← counted_by class_at with_class [] profile.1
  records ←
      counted_by (next_record_at version.0 classes.0) (with_record classes.0) no_past classes.1
  Ok (
    record {
      version = version.0;
      profile = profile.0;
      classes = classes.0;
      records = records.0;
    },
    records.1,
  )

-- How many of the classes the records use, from the first on.
abbrev pub used_in : Contents → ℕ
used_in c = (known_by (with_record c.classes) no_past c.records).classes

abbrev pub is_used_up : Contents → Bool
is_used_up c = used_in c == length c.classes

-- Once all else is right, an unused class is told at its length. The first class is at 12.
abbrev pub if_used_up : Contents → Result Contents HistoryFault
if_used_up c =
    if is_used_up c then Ok c else Err (HistoryBad (place_behind 12 c.classes (used_in c)))

-- Nothing stands behind the last record.
abbrev pub whole_of : Contents × Input → Result Contents HistoryFault
whole_of read = if length read.1.bytes == 0 then if_used_up read.0 else Err (HistoryBad read.1.at)

abbrev pub at_front : List ℕ → Input
at_front bytes = record { at = 0; bytes = bytes }

-- The most bytes that a history has: 512 MiB.
abbrev pub most : ℕ
most = 536870912

-- What the bytes of a history hold, or the first fault. A text that is too long is told before all
-- else, at the first byte past the most.
unfoldable pub contents_of : List ℕ → Result Contents HistoryFault
contents_of bytes =
    if nat_lt most (length bytes) then Err (HistoryBad most)
    else contents_at (at_front bytes) >>= whole_of

-- ---- its records

abbrev pub is_failed : Outcome → Bool
is_failed (Failed cause) = true
is_failed other = false

-- The first version doesn't tell why a test failed, so such records are dropped; and those of
-- another profile number are passed over.
abbrev pub records_under : ℕ → Contents → List RunRecord
records_under profile c =
    if c.profile == profile
    then (if c.version == 1 then filter (λ r. not (is_failed r.outcome)) c.records else c.records)
    else []

-- The records of a history for a tool of this profile number.
abbrev pub read_as : ℕ → List ℕ → Result (List RunRecord) HistoryFault
read_as profile bytes = contents_of bytes >>= λ c. Ok (records_under profile c)

-- ---- its bytes

abbrev pub contents_bytes : Contents → List ℕ
contents_bytes c =
    to_be_bytes w32 magic
    ++ (to_be_bytes w16 c.version
    ++ (to_be_bytes w16 c.profile
    ++ (counted_bytes class_bytes c.classes
    ++ counted_bytes (record_bytes c.version c.classes) c.records)))

-- The contents have the form of a history, whose text isn't too long.
pub record IsContents (c : Contents) : Type 0 where
  pub version : is_version c.version ≡ true
  pub profile : c.profile < 2 ^ 16
  pub few_classes : length c.classes < 2 ^ 32
  pub classes : AllBy IsClassBehind with_class [] c.classes
  pub few_records : length c.records < 2 ^ 32
  pub records : AllBy (IsNextRecord c.version c.classes) (with_record c.classes) no_past c.records

pub record IsHistory (c : Contents) : Type 0 where
  pub form : IsContents c
  pub used : is_used_up c ≡ true
  pub short : length (contents_bytes c) ≤ most

-- ---- the text of records

-- The classes that records use, in order of first use.
abbrev pub class_put : List (List ℕ) → Option (List ℕ) → List (List ℕ)
class_put classes None = classes
class_put classes (Some class) = if is_listed class classes then classes else classes ++ class ∷ []

abbrev pub classes_used : List (List ℕ) → List Entry → List (List ℕ)
classes_used classes [] = classes
classes_used classes (e ∷ es) = classes_used (class_put classes e.1) es

abbrev pub classes_behind : List (List ℕ) → List RunRecord → List (List ℕ)
classes_behind classes [] = classes
classes_behind classes (r ∷ rs) = classes_behind (classes_used classes r.consulted) rs

abbrev pub contents_with : ℕ → ℕ → List RunRecord → Contents
contents_with version profile records = record {
  version = version;
  profile = profile;
  classes = classes_behind [] records;
  records = records;
}

-- The text of these records, in the version that is written.
abbrev pub HistoryText : ℕ → List RunRecord → List ℕ
HistoryText profile records = contents_bytes (contents_with 2 profile records)

-- A length in 64 bits; one that these can't tell is the most that they can.
abbrev pub told_length : ℕ → ℕ
told_length n = min n 18446744073709551615

-- What is written of them: their text, unless it is too long.
abbrev pub written : ℕ → List RunRecord → Result (List ℕ) HistoryFault
written profile records =
    if nat_lt most (length (HistoryText profile records))
    then Err (TooLong (told_length (length (HistoryText profile records))))
    else Ok (HistoryText profile records)
