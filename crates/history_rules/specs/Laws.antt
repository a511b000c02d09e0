-- Histories are read as they are spelled.
use Rattle.std.specs.Prelude.{◌≡◌, ◌<◌, ◌≤◌, ◌^◌, ℕ, true, List, [], ◌∷◌, length, Option, Some}
use Rattle.std.specs.Prelude.{None, Ok}
use Rattle.codec_rules.specs.Input.{IsBytes}
use Rattle.codec_rules.specs.Spelling.{IsCodecAt}
use Rattle.record_rules.specs.declared.record.RunRecord.{RunRecord}
use Rattle.program_rules.specs.Names.{Name}
use Rattle.history_rules.specs.Items.{IsText, AllBy}
use Rattle.history_rules.specs.Entries.{Entry, is_new, IsPair, with_pair}
use Rattle.history_rules.specs.Classes.{IsClassBehind, with_class}
use Rattle.history_rules.specs.Reading.{are_steps, record_at}
use Rattle.history_rules.specs.Spelling.{record_bytes, IsOutcome, IsRecord}
use Rattle.history_rules.specs.Histories.{is_other, Contents, most, contents_of, read_as}
use Rattle.history_rules.specs.Histories.{contents_bytes, IsHistory, contents_with, HistoryText}

-- The classes differ from each other.
abbrev pub AreDifferent : List (List ℕ) → Type 0
AreDifferent pool = AllBy IsClassBehind with_class [] pool

-- Under different classes reading and spelling of records undo each other.
abbrev pub RecordsAreReadAsSpelled : Type 0
RecordsAreReadAsSpelled =
    (version : ℕ) (pool : List (List ℕ)) (used : ℕ) → AreDifferent pool →
    IsCodecAt (record_at version pool used) (λ at. record_bytes version pool)
    (IsRecord version pool used)

-- Records with equal bytes are equal, however many classes counted as used before each.
abbrev pub BytesTellRecords : Type 0
BytesTellRecords =
    (version : ℕ) (pool : List (List ℕ)) (used later : ℕ) (a b : RunRecord) → AreDifferent pool →
    IsRecord version pool used a → IsRecord version pool later b →
    record_bytes version pool a ≡ record_bytes version pool b → a ≡ b

-- What is read was spelled so; what is spelled is read as that; and the classes of what is read are
-- those of its records, in order of first use.
pub record AreReadAsSpelled : Type 0 where
  pub takes :
      (bytes : List ℕ) (c : Contents) → IsBytes bytes → contents_of bytes ≡ Ok c →
      IsHistory c × (bytes ≡ contents_bytes c)
  pub again : (c : Contents) → IsHistory c → contents_of (contents_bytes c) ≡ Ok c
  pub classes : (c : Contents) → IsHistory c → c ≡ contents_with c.version c.profile c.records

abbrev pub HistoriesAreReadAsSpelled : Type 0
HistoriesAreReadAsSpelled = AreReadAsSpelled

-- ---- what is written

abbrev pub HasShortClass : Option (List ℕ) → Type 0
HasShortClass None = Unit {0}
HasShortClass (Some class) = length class < 2 ^ 32

-- A consulted name of a record: a text that isn't among those before, and a class with a length.
abbrev pub IsNewEntry : List Name → Entry → Type 0
IsNewEntry names e = IsText e.0 × (is_new names e.0 ≡ true) × HasShortClass e.1

abbrev pub with_name : List Name → Entry → List Name
with_name names e = e.0 ∷ names

-- A record has the form of a history, whatever other records stand there.
pub record IsFormed (r : RunRecord) : Type 0 where
  pub class : IsText r.test_class
  pub method : IsText r.test_method
  pub heap : r.heap < 2 ^ 32
  pub depth : r.depth < 2 ^ 32
  pub limit : r.limit < 2 ^ 64
  pub outcome : IsOutcome 2 r.outcome
  pub steps : r.steps < 2 ^ 64
  pub within : are_steps r.limit r.outcome r.steps ≡ true
  pub few_names : length r.consulted < 2 ^ 32
  pub names : AllBy IsNewEntry with_name [] r.consulted
  pub few_lines : length r.reached < 2 ^ 32
  pub lines : AllBy (IsPair r.consulted) with_pair None r.reached

-- Records have this form, and differ.
abbrev pub IsOther : List RunRecord → RunRecord → Type 0
IsOther before r = IsFormed r × (is_other before r ≡ true)

abbrev pub before_next : List RunRecord → RunRecord → List RunRecord
before_next before r = r ∷ before

abbrev pub AreWritable : List RunRecord → Type 0
AreWritable rs = AllBy IsOther before_next [] rs

-- What is written of such records, if it isn't too long, is a history, and is read as these.
abbrev pub WrittenIsRead : Type 0
WrittenIsRead =
    (profile : ℕ) (rs : List RunRecord) → profile < 2 ^ 16 → AreWritable rs →
    length (HistoryText profile rs) ≤ most →
    IsHistory (contents_with 2 profile rs) × (read_as profile (HistoryText profile rs) ≡ Ok rs)
