-- What is kept of a journal to add records to it: the numbers of its classes, and the records that were
-- added, by their contents (this project's own).
use Rattle.std.specs.Prelude.{◌≡◌, ◌<◌, ◌^◌, ℕ, List, [], ◌∷◌, ◌++◌, length, map, Option, Some, None}
use Rattle.std.specs.Prelude.{is_some, slice_get}
use Rattle.std.specs.List.{AllByRecursion}
use Rattle.std.specs.BTreeMap.{BTreeMap}
use Rattle.std.specs.Global.{Vec}
use Rattle.program_rules.specs.Names.{is_listed}
use Rattle.record_rules.specs.declared.record.RunRecord.{RunRecord}
use Rattle.history_rules.specs.Entries.{Entry}
use Rattle.history_rules.specs.Histories.{classes_used}
use Rattle.history_rules.specs.Laws.{HasShortClass, IsFormed}
use Rattle.run_journal.specs.Contents.{record_content}
use Rattle.job_journal.specs.Adding.{HasNumbers, class_entries, added_bytes}
use Rattle.job_journal.specs.Numbers.{kept_at}
use Rattle.job_journal.specs.declared.tables.Tables.{Tables}

-- Its class, if it has one, has a length of four bytes.
abbrev pub IsShort : Entry → Type 0
IsShort e = HasShortClass e.1

-- Entries for the classes of these were written, and the classes have their numbers.
abbrev pub PutsClasses : List Entry → List (List ℕ) → List (List ℕ) → List ℕ → List ℕ → Type 0
PutsClasses es old new before out =
    (new ≡ classes_used old es) × (out ≡ before ++ class_entries old es)

-- A record stands among others.
pub record StandsAmong (r : RunRecord) (rs : List RunRecord) : Type 0 where
  pub place : ℕ
  pub stands : slice_get rs place ≡ Some r

-- These records were added under these classes, and their contents are in the set, and no others.
pub record HasAdded
    (classes : List (List ℕ)) (found : BTreeMap (Vec ℕ) (Unit {0})) (added : List RunRecord) :
    Type 0 where
  pub each : AllByRecursion (λ (r : RunRecord). IsFormed r × HasNumbers classes r) added
  pub contents :
      (q : List ℕ) →
      is_some (kept_at found q) ≡ is_listed q (map (record_content classes) added)

abbrev pub IsTables : Tables → List RunRecord → Type 0
IsTables t added = HasAdded t.numbers t.contents added

-- What adding a record gives: nothing where it was added before, and else what a journal gains.
abbrev pub Adds : RunRecord → Tables → Tables → Option (List ℕ) → Type 0
Adds r old new None =
    (added : List RunRecord) → IsTables old added →
    StandsAmong r added × IsTables new added × (new.numbers ≡ old.numbers)
Adds r old new (Some piece) =
    (piece ≡ added_bytes old.numbers r) × (new.numbers ≡ classes_used old.numbers r.consulted)
    × (length new.numbers < 2 ^ 32)
    × ((added : List RunRecord) → IsTables old added →
    (StandsAmong r added → ⊥) × IsTables new (added ++ r ∷ []))
