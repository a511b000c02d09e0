-- Journals are read as they are spelled, and so is each beginning of one (this project's own).
use Rattle.std.specs.Prelude.{◌≡◌, ℕ, Bool, true, false, List, [], ◌++◌}
use Rattle.std.specs.Prelude.{Option, Some, None}
use Rattle.std.specs.List.{flat_map, AllByRecursion}
use Rattle.codec_rules.specs.Input.{IsBytes}
use Rattle.history_rules.specs.Items.{AllBy, known_by}
use Rattle.run_journal.specs.Entries.{Entry, IsChunk, header, entry_bytes, content_of, good_entry}
use Rattle.run_journal.specs.Contents.{Item, Known, no_known, item_of, with_item}
use Rattle.run_journal.specs.Reading.{Progress, Open, reading_of, read_on, start, IsRead, IsWhole}
use Rattle.run_journal.specs.Reading.{closing_of}

-- ---- what a journal is

-- A good entry says something under the classes before it.
abbrev pub SaysSomething : Bool → Option Item → Type 0
SaysSomething false item = Unit {0}
SaysSomething true None = ⊥
SaysSomething true (Some item) = Unit {0}

abbrev pub IsEntry : Known → Entry → Type 0
IsEntry known e =
    AllByRecursion IsChunk e.chunks × SaysSomething e.good (item_of known.classes (content_of e))

abbrev pub with_said : Known → Bool → Option Item → Known
with_said known false item = known
with_said known true None = known
with_said known true (Some item) = with_item known item

abbrev pub with_entry : Known → Entry → Known
with_entry known e = with_said known e.good (item_of known.classes (content_of e))

-- A text is a journal: bytes, the header first, and entries behind it.
pub record IsJournal (profile : ℕ) (bytes : List ℕ) : Type 0 where
  pub bytes_are : IsBytes bytes
  pub entries : List Entry
  pub form : AllBy IsEntry with_entry no_known entries
  pub text : bytes ≡ header profile ++ flat_map entry_bytes entries

-- ---- the laws

-- A journal is read as whole, with what its entries say; and what is read as whole is a journal.
pub record WholeIsSpelled : Type 0 where
  pub again :
      (profile : ℕ) (entries : List Entry) → AllBy IsEntry with_entry no_known entries →
      IsWhole (reading_of profile (header profile ++ flat_map entry_bytes entries))
      × ((reading_of profile (header profile ++ flat_map entry_bytes entries)).known
      ≡ known_by with_entry no_known entries)
  pub spelled :
      (profile : ℕ) (bytes : List ℕ) → IsBytes bytes → IsWhole (reading_of profile bytes) →
      IsJournal profile bytes

-- Where the closing of a beginning stands behind it, it is whole and says the same.
abbrev pub ClosingIsRead : Type 0
ClosingIsRead =
    (profile : ℕ) (bytes : List ℕ) → IsRead (reading_of profile bytes) →
    IsWhole (reading_of profile (bytes ++ closing_of (reading_of profile bytes).stage))
    × ((reading_of profile (bytes ++ closing_of (reading_of profile bytes).stage)).known
    ≡ (reading_of profile bytes).known)

-- One list begins another.
pub record Begins {A : Type 0} (front : List A) (whole : List A) : Type 0 where
  pub more : List A
  pub is : whole ≡ front ++ more

-- What a beginning of a text says, the text says first.
pub record SaysFirst (p : Progress) (q : Progress) : Type 0 where
  pub classes : Begins p.known.classes q.known.classes
  pub records : Begins p.known.records q.known.records

-- A beginning of what is read is read; so what a stop leaves of a journal is read, and no record of
-- what surely stays is lost.
abbrev pub BeginningsAreRead : Type 0
BeginningsAreRead =
    (profile : ℕ) (bytes more : List ℕ) → IsRead (reading_of profile (bytes ++ more)) →
    IsRead (reading_of profile bytes)
    × SaysFirst (reading_of profile bytes) (reading_of profile (bytes ++ more))

-- An entry that is written behind a whole journal is read.
abbrev pub WrittenIsRead : Type 0
WrittenIsRead =
    (profile : ℕ) (bytes content : List ℕ) (item : Item) → IsWhole (reading_of profile bytes) →
    item_of (reading_of profile bytes).known.classes content ≡ Some item →
    IsWhole (reading_of profile (bytes ++ entry_bytes (good_entry content)))
    × ((reading_of profile (bytes ++ entry_bytes (good_entry content))).known
    ≡ with_item (reading_of profile bytes).known item)
