-- What calls that read a journal give (this project's own).
use Rattle.std.specs.Prelude.{◌≡◌, ◌≢◌, ◌+◌, ◌<◌, ◌≤◌, ◌==◌, ℕ, Bool, true, false, List, [], ◌∷◌, length, Option, Some, None}
use Rattle.std.specs.Prelude.{Result, Ok, Err}
use Rattle.codec_rules.specs.Input.{Input}
use Rattle.codec_rules.specs.Meets.{Fails}
use Rattle.history_rules.specs.declared.fault.HistoryFault.{HistoryFault}
use Rattle.history_rules.specs.declared.fault.HistoryFault.TheVariants.{HistoryBad, Memory}
use Rattle.run_journal.specs.Entries.{header}
use Rattle.run_journal.specs.Contents.{Item, ClassFile, Run, Known, no_known, item_at, item_of}
use Rattle.run_journal.specs.Contents.{with_item}
use Rattle.run_journal.specs.Reading.{Stage, Head, Open, Ended, Progress, Parts, parts_in, read_on}
use Rattle.run_journal.specs.Reading.{behind_head}
use Rattle.run_journal.specs.declared.content.Found.{Found}
use Rattle.run_journal.specs.declared.content.Found.TheVariants as found
use Rattle.run_journal.specs.declared.read.JournalRead.{JournalRead}
use Rattle.run_journal.specs.declared.runs.Runs.{Runs}

-- ---- bytes

-- The next byte was taken, if there was one.
abbrev pub TakesByte : Input → Input → Option ℕ → Type 0
TakesByte old new None = (old.bytes ≡ []) × (new ≡ old)
TakesByte old new (Some b) = (old.bytes ≡ b ∷ new.bytes) × (new.at ≡ old.at + 1)

-- ---- chunks

-- What is read of a text, from this place and stage on.
abbrev pub parts_on : Progress → List ℕ → Result Parts HistoryFault
parts_on p bytes = parts_in (read_on p bytes).known (read_on p bytes).stage

abbrev pub parts_from : Input → Stage → Known → Result Parts HistoryFault
parts_from input stage known =
    parts_on (record { at = input.at; stage = stage; known = known }) input.bytes

-- The text ends there, and lacks this closing.
abbrev pub ends_with : Known → List ℕ → Result Parts HistoryFault
ends_with known closing = Ok (record { known = known; closing = closing })

-- A byte of the header was taken, if there was one.
abbrev pub TakesWanted : ℕ → Input → Input → Result Bool HistoryFault → Type 0
TakesWanted wanted old new (Ok true) = TakesByte old new (Some wanted)
TakesWanted wanted old new (Ok false) = TakesByte old new None
TakesWanted wanted old new (Err fault) =
    (behind : List ℕ) → Fails Memory fault (parts_from old (Head wanted behind) no_known)

-- The header was read, unless the text ends in it.
abbrev pub ReadsHeader : List ℕ → Input → Input → Result (Option (List ℕ)) HistoryFault → Type 0
ReadsHeader header old new (Ok None) =
    parts_from old (behind_head header) no_known ≡ parts_from new (Open []) no_known
ReadsHeader header old new (Ok (Some closing)) =
    parts_from old (behind_head header) no_known ≡ ends_with no_known closing
ReadsHeader header old new (Err fault) =
    Fails Memory fault (parts_from old (behind_head header) no_known)

-- Chunks were read behind this content, up to the 0 of the entry, unless the text ends in it.
abbrev pub ReadsChunks : Input → Input → List ℕ → List ℕ → Option (List ℕ) → Type 0
ReadsChunks old new before content None =
    ((known : Known) →
    parts_from old (Open before) known ≡ parts_from new (Ended content) known)
    × (length new.bytes < length old.bytes)
ReadsChunks old new before content (Some closing) =
    (known : Known) → parts_from old (Open before) known ≡ ends_with known closing

-- ---- contents

abbrev pub known_in : Runs → Known
known_in r = record { classes = r.classes; records = r.records }

abbrev pub item_in : Found → Item
item_in (found.ClassFile class) = ClassFile class
item_in (found.Run version r) = Run version r

-- An item was read.
abbrev pub ReadsItem : List (List ℕ) → Input → Input → Result Found HistoryFault → Type 0
ReadsItem classes old new (Ok f) = item_at classes old ≡ Ok (item_in f, new)
ReadsItem classes old new (Err fault) = Fails Memory fault (item_at classes old)

-- The whole content is an item, or none.
abbrev pub TellsItem : List (List ℕ) → List ℕ → Result Found HistoryFault → Type 0
TellsItem classes content (Ok f) = item_of classes content ≡ Some (item_in f)
TellsItem classes content (Err fault) = fault ≢ Memory → item_of classes content ≡ None

-- What a content says is known; one that says nothing is told at the place of its entry's mark.
abbrev pub SaysItem : Known → Known → Option Item → Type 0
SaysItem before after None = ⊥
SaysItem before after (Some item) = after ≡ with_item before item

abbrev pub AddsItem : List ℕ → ℕ → Known → Known → Result (Unit {0}) HistoryFault → Type 0
AddsItem content at before after (Ok done) =
    SaysItem before after (item_of before.classes content)
AddsItem content at before after (Err fault) =
    fault ≢ Memory → (item_of before.classes content ≡ None) × (fault ≡ HistoryBad at)

-- ---- entries

-- The mark behind the 0 of an entry was read, unless the text ends there.
abbrev pub ReadsMark :
    List ℕ → Input → Input → Known → Known → Result (Option (List ℕ)) HistoryFault → Type 0
ReadsMark content old new before after (Ok None) =
    (parts_from old (Ended content) before ≡ parts_from new (Open []) after)
    × (length new.bytes ≤ length old.bytes)
ReadsMark content old new before after (Ok (Some closing)) =
    parts_from old (Ended content) before ≡ ends_with after closing
ReadsMark content old new before after (Err fault) =
    Fails Memory fault (parts_from old (Ended content) before)

-- An entry was read, unless the text ends in it.
abbrev pub ReadsEntry :
    Input → Input → Known → Known → Result (Option (List ℕ)) HistoryFault → Type 0
ReadsEntry old new before after (Ok None) =
    (parts_from old (Open []) before ≡ parts_from new (Open []) after)
    × (length new.bytes < length old.bytes)
ReadsEntry old new before after (Ok (Some closing)) =
    parts_from old (Open []) before ≡ ends_with after closing
ReadsEntry old new before after (Err fault) = Fails Memory fault (parts_from old (Open []) before)

-- All entries were read, up to the end of the text.
abbrev pub ReadsEntries : Input → Known → Known → Result (List ℕ) HistoryFault → Type 0
ReadsEntries old before after (Ok closing) =
    parts_from old (Open []) before ≡ ends_with after closing
ReadsEntries old before after (Err fault) = Fails Memory fault (parts_from old (Open []) before)

abbrev pub parts_of : JournalRead → Parts
parts_of r = record { known = known_in r.runs; closing = r.closing }
