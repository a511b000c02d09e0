-- What calls that read the whole of a history give (this project's own).
use Rattle.std.specs.Prelude.{◌≡◌, ◌<◌, ◌≤◌, ◌^◌, ◌==◌, ℕ, List, [], ◌∷◌, ◌++◌, ◌+◌, length, map, drop, Result, Ok, Err}
use Rattle.std.specs.Prelude.{All}
use Rattle.codec_rules.specs.Input.{Input}
use Rattle.codec_rules.specs.Meets.{Fails}
use Rattle.codec_rules.specs.Sequence.{◌>>=◌}
use Rattle.record_rules.specs.declared.record.RunRecord.{RunRecord}
use Rattle.history_rules.specs.declared.fault.HistoryFault.{HistoryFault}
use Rattle.history_rules.specs.declared.fault.HistoryFault.TheVariants.{Memory}
use Rattle.history_rules.specs.Items.{FileReader, u2_at, u4_at, where_at, known_by}
use Rattle.history_rules.specs.Classes.{class_bytes}
use Rattle.history_rules.specs.Spelling.{record_bytes, IsRecord}
use Rattle.history_rules.specs.Histories.{Past, magic, is_version, next_record_at, with_record}
use Rattle.history_rules.specs.Histories.{no_past, Contents, contents_at, most}
use Rattle.history_rules.specs.Laws.{AreDifferent}
use Rattle.history_file.specs.declared.head.Head.{Head}
use Rattle.history_file.specs.declared.read.Parts.{Parts}
use Rattle.history_file.specs.declared.records.Found.{Found}
use Rattle.std.specs.Borrow.{Bor}
use Rattle.std.specs.List.{flat_map}
use Rattle.history_file.specs.Rows.{record_of, IsRow}
use Rattle.history_file.specs.Texts.{HasSlices, AreTexts, HasRoom, Marked, texts_of}

-- The first bytes of a history: its version and its profile number.
unfoldable pub head_at : FileReader Head
head_at input = do
  first ← where_at u4_at (λ n. n == magic) input
  version ← where_at u2_at is_version first.1
  profile ← u2_at version.1
  Ok (record { version = version.0; profile = profile.0 }, profile.1)

-- What is left of a file, at its place.
pub record IsIn (file : List ℕ) (input : Input) : Type 0 where
  pub within : input.at ≤ length file
  pub rest : input.bytes ≡ drop input.at file

-- The records that were read before: some that have the form of a history under these classes, as
-- their bytes are in the set; and each of their rows is one.
pub record HasFound
    (version : ℕ) (pool : List (List ℕ)) (stamp : ℕ) (past : Past) (f : Found) : Type 0 where
  pub used : past.classes ≡ f.used
  pub within : f.used ≤ length pool
  pub seen : HasSlices f.seen (map (record_bytes version pool) past.records)
  pub form : All (λ (r : RunRecord). (used : ℕ) × IsRecord version pool used r) past.records
  pub texts : AreTexts f.texts
  pub numbers : List ℕ
  pub marked : Marked f.texts stamp numbers
  pub rows : All (IsRow (length (texts_of f.texts)) (length pool)) f.rows

-- The records that the rows are.
abbrev pub found_records : List (List ℕ) → Found → List RunRecord
found_records pool f = map (record_of (texts_of f.texts) pool) f.rows

-- One record more was read: it is the next one by the definition, and its row stands behind the
-- others, which are as they were.
pub record NextFound
    (version : ℕ) (pool : List (List ℕ)) (stamp : ℕ) (past : Past) (old : Found) (new : Found)
    (file : List ℕ) (from : Input) (to : Input) : Type 0 where
  pub next : RunRecord
  pub read : next_record_at version pool past from ≡ Ok (next, to)
  pub rows : found_records pool new ≡ found_records pool old ++ next ∷ []
  pub found : HasFound version pool stamp (with_record pool past next) new
  pub place : IsIn file to
  pub room : HasRoom new.texts to

-- Slices of a file were read.
abbrev pub ReadsSlices :
    FileReader (List (List ℕ)) → Input → Input → Result (List (Bor (List ℕ))) HistoryFault → Type 0
ReadsSlices read from to (Ok slices) = read from ≡ Ok (map (λ s. s.now) slices, to)
ReadsSlices read from to (Err fault) = Fails Memory fault (read from)

-- Different classes were read, of so many bytes.
pub record AreClasses (from : Input) (to : Input) (classes : List (List ℕ)) : Type 0 where
  pub different : AreDifferent classes
  pub few : length classes < 2 ^ 32
  pub long : length (flat_map class_bytes classes) + length to.bytes ≤ length from.bytes

-- Records were read, and each of their rows is one under the names that were found.
pub record AreFound (version : ℕ) (pool : List (List ℕ)) (f : Found) : Type 0 where
  pub texts : AreTexts f.texts
  pub few : length (texts_of f.texts) < 2 ^ 32
  pub few_rows : length f.rows < 2 ^ 32
  pub rows : All (IsRow (length (texts_of f.texts)) (length pool)) f.rows
  pub within : f.used ≤ length pool
  pub used :
      f.used ≡ (known_by (with_record pool) no_past (found_records pool f)).classes

abbrev pub ReadsFound :
    ℕ → List (List ℕ) → FileReader (List RunRecord) → Input → Input → Result Found HistoryFault →
    Type 0
ReadsFound version pool read from to (Ok f) =
    (read from ≡ Ok (found_records pool f, to)) × AreFound version pool f
ReadsFound version pool read from to (Err fault) = Fails Memory fault (read from)

-- ---- the whole

-- What a history holds, by its parts.
abbrev pub contents_in : Parts → Contents
contents_in p = record {
  version = p.head.version;
  profile = p.head.profile;
  classes = map (λ s. s.now) p.classes;
  records = found_records (map (λ s. s.now) p.classes) p.found;
}

-- These are parts of a file that isn't too long.
pub record AreParts (p : Parts) : Type 0 where
  pub different : AreDifferent (map (λ s. s.now) p.classes)
  pub few : length (map (λ s. s.now) p.classes) < 2 ^ 32
  pub short : length (flat_map class_bytes (map (λ s. s.now) p.classes)) ≤ most
  pub found : AreFound p.head.version (map (λ s. s.now) p.classes) p.found

abbrev pub ReadsParts : Input → Input → Result Parts HistoryFault → Type 0
ReadsParts from to (Ok p) = (contents_at from ≡ Ok (contents_in p, to)) × AreParts p
ReadsParts from to (Err fault) = Fails Memory fault (contents_at from)
