-- What a good entry of a journal says: a class file, or the record of a run under the classes of good
-- entries before it (this project's own).
use Rattle.std.specs.Prelude.{◌<◌, ◌^◌, ℕ, Bool, not, ◌&&◌, ◌==◌, List, [], ◌∷◌, ◌++◌, length}
use Rattle.std.specs.Prelude.{Option, Some, None, Result, Ok, Err, if◌then◌else◌}
use Rattle.codec_rules.specs.Input.{Input}
use Rattle.codec_rules.specs.Sequence.{◌>>=◌}
use Rattle.record_rules.specs.declared.record.RunRecord.{RunRecord}
use Rattle.history_rules.specs.declared.fault.HistoryFault.{HistoryFault}
use Rattle.history_rules.specs.declared.fault.HistoryFault.TheVariants.{HistoryBad}
use Rattle.history_rules.specs.Items.{FileReader, u1_at, u4_at, take_at}
use Rattle.history_rules.specs.Classes.{class_bytes}
use Rattle.history_rules.specs.Reading.{record_at}
use Rattle.history_rules.specs.Spelling.{record_bytes}
use Rattle.history_rules.specs.Histories.{is_failed, at_front}

-- A class file, or a record as a history of this version has it.
pub data Item : Type 0 where
  ClassFile : List ℕ → Item
  Run : ℕ → RunRecord → Item

-- The length of a class file, and its bytes. It may be equal to one before it.
unfoldable pub class_file_at : FileReader (List ℕ)
class_file_at input = u4_at input >>= λ len. take_at len.0 len.1

unfoldable pub class_item_at : FileReader Item
class_item_at input = class_file_at input >>= λ class. Ok (ClassFile class.0, class.1)

-- A record, whose classes are numbered from 1.
unfoldable pub run_item_at : ℕ → List (List ℕ) → FileReader Item
run_item_at version classes input =
    record_at version classes (length classes) input >>= λ r. Ok (Run version r.0, r.1)

-- The first byte tells which it is.
abbrev pub item_behind : ℕ → List (List ℕ) → ℕ → FileReader Item
item_behind at classes kind input =
    if kind == 1 then class_item_at input
    else if kind == 2 then run_item_at 1 classes input
    else if kind == 3 then run_item_at 2 classes input
    else Err (HistoryBad at)

unfoldable pub item_at : List (List ℕ) → FileReader Item
item_at classes input = u1_at input >>= λ kind. item_behind input.at classes kind.0 kind.1

-- The whole content has to be the item.
abbrev pub whole_item : Result (Item × Input) HistoryFault → Option Item
whole_item (Ok read) = if length read.1.bytes == 0 then Some read.0 else None
whole_item (Err fault) = None

abbrev pub item_of : List (List ℕ) → List ℕ → Option Item
item_of classes content = whole_item (item_at classes (at_front content))

-- ---- what is known behind entries

-- The class files of good entries, equal ones as often as they stand there, and the records.
pub record Known : Type 0 where
  pub classes : List (List ℕ)
  pub records : List RunRecord

abbrev pub no_known : Known
no_known = record { classes = []; records = [] }

-- The first version doesn't tell why a test failed, so such a record is dropped.
abbrev pub is_kept : ℕ → RunRecord → Bool
is_kept version r = not (version == 1 && is_failed r.outcome)

abbrev pub with_class : Known → List ℕ → Known
with_class known class = record known { classes = known.classes ++ class ∷ [] }

abbrev pub with_record : Known → RunRecord → Known
with_record known r = record known { records = known.records ++ r ∷ [] }

abbrev pub with_item : Known → Item → Known
with_item known (ClassFile class) = with_class known class
with_item known (Run version r) = if is_kept version r then with_record known r else known

-- ---- what is written

abbrev pub class_content : List ℕ → List ℕ
class_content class = 1 ∷ class_bytes class

abbrev pub record_content : List (List ℕ) → RunRecord → List ℕ
record_content classes r = 3 ∷ record_bytes 2 classes r
