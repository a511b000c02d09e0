-- Which source each file of a report has (this project's own).
use Rattle.std.specs.Prelude.{◌≡◌, ℕ, ◌+◌, ◌≤◌, ◌<◌, List, [], ◌∷◌, ◌++◌, length, map, nat_lt, if◌then◌else◌, Bool, false, Option, None, IfSome, Result, Ok, Err, IfErr, MatchResult, String}
use Rattle.std.specs.declared.alloc.Global.{Global}
use Rattle.std.specs.BTreeSet.{BTreeSet, contains_text}
use Rattle.std.specs.FinMap.{get}
use Rattle.std.specs.Io.Iter.{u64_saturate}
use Rattle.std.specs.List.{list_any}
use Rattle.std.specs.Option.{option_map_or}
use Rattle.std.specs.Str.{bytes_eq}
use Rattle.mt_edge.specs.Causes.{Rose}
use Rattle.mt_edge.specs.Files.{Files, listed, slash}
use Rattle.report_schema.specs.Report.{text_or_empty}
use Rattle.report_pieces.specs.declared.input.Group.{Group}
use Rattle.report_sources.specs.declared.fault.SourceFault.{SourceFault}
use Rattle.report_sources.specs.declared.fault.SourceFault.TheVariants.{TooMany, Failed}

-- ---- the sources of keys

-- the path of a key below a folder
abbrev pub path_below : List ℕ → List ℕ → List ℕ
path_below folder key = folder ++ slash ∷ [] ++ key

-- what a path holds, nothing where it isn't held
abbrev pub held_at : List ℕ → Files → List ℕ
held_at path files = option_map_or (λ bytes. bytes) (get files path) []

-- Sources of more than 67,108,864 bytes in all are too many.
abbrev pub within_limit : ℕ → Result ℕ ℕ
within_limit sum = if nat_lt 67108864 sum then Err sum else Ok sum

abbrev pub and_then : {X Y : Type 0} → Result X ℕ → (X → Result Y ℕ) → Result Y ℕ
and_then (Ok x) next = next x
and_then (Err sum) next = Err sum

-- One source, where so many bytes were read before: what the path holds.
abbrev pub source_at : ℕ → List ℕ → Files → Result (List ℕ) ℕ
source_at sum path files =
    and_then (within_limit (u64_saturate (sum + length (held_at path files))))
    (λ total. Ok (held_at path files))

-- The sources of keys, in their order, where so many bytes were read before. Else how many bytes
-- they have with the first source that is too much, or 2^64 - 1 where they have more.
abbrev pub sources_from : ℕ → List ℕ → List (List ℕ) → Files → Result (List (List ℕ)) ℕ
sources_from sum folder [] files = Ok []
sources_from sum folder (key ∷ keys) files =
    and_then (source_at sum (path_below folder key) files) (λ source.
    and_then (sources_from (sum + length source) folder keys files) (λ others.
    Ok (source ∷ others)))

-- The sources of the files of a report, by their keys.
abbrev pub sources_of : List ℕ → List Group → Files → Result (List (List ℕ)) ℕ
sources_of folder groups files =
    sources_from 0 folder (map (λ group. text_or_empty group.key) groups) files

-- ---- what calls promise

-- A refusal is that of the files that a tree tells.
abbrev pub Refuses : {X : Type 0} → Option Files → (Files → Result X ℕ) → SourceFault → Type 0
Refuses held stated fault =
    IfSome held (λ files. (sum : ℕ) → fault ≡ TooMany sum → stated files ≡ Err sum)

-- A call gave what the files decide that a tree tells, unless the tree failed or memory ran out.
abbrev pub ReadsBy :
    {X : Type 0} → Option Files → (Files → Result X ℕ) → Result X SourceFault → Type 0
ReadsBy held stated result =
    MatchResult result (λ x. IfSome held (λ files. stated files ≡ Ok x)) (Refuses held stated)

-- Whatever the tree tells: sources are too many only past the limit, and a call of the tree is told
-- to have failed only where the count of its faults rose.
pub record IsCaused (before now : ℕ) (fault : SourceFault) : Type 0 where
  pub past : (sum : ℕ) → fault ≡ TooMany sum → 67108864 < sum
  pub failed : fault ≡ Failed → Rose before now

-- By what is told of a tree before and after: it was only read.
pub record IsRead (held left : Option Files) (writing written reading read : ℕ) : Type 0 where
  pub same : left ≡ held
  pub unwritten : written ≡ writing
  pub later : reading ≤ read

module _ {T : Type 0} (holds : T → Option Files) (writing reading : T → ℕ) where
  abbrev pub Asks : {X : Type 0} → T → T → Result X SourceFault → Type 0
  Asks old new result =
      IsRead (holds old) (holds new) (writing old) (writing new) (reading old) (reading new)
      × IfErr result (IsCaused (reading old) (reading new))

-- ---- for private clauses

-- so many bytes, if they aren't too many
abbrev pub Sums : ℕ → Result ℕ SourceFault → Type 0
Sums sum result =
    MatchResult result (λ total. (sum ≤ 67108864) × (total ≡ sum))
    (λ fault. (67108864 < sum) × (fault ≡ TooMany sum))

abbrev pub IsHeld : Option Files → List ℕ → List ℕ → Type 0
IsHeld held path bytes = IfSome held (λ files. bytes ≡ held_at path files)

-- a set has the paths that are listed below a folder
abbrev pub Names : Option Files → List ℕ → BTreeSet (String Global) → Type 0
Names held folder paths =
    IfSome held (λ files.
    (q : List ℕ) → contains_text paths q ≡ list_any (bytes_eq q) (listed folder files))

-- a path that a set doesn't have isn't held
abbrev pub IsKnown : Option Files → BTreeSet (String Global) → List ℕ → Type 0
IsKnown held paths path =
    IfSome held (λ files. contains_text paths path ≡ false → get files path ≡ None)

-- the sources that were read, and those that are still to be read
abbrev pub with_sources :
    List (List ℕ) → Result (List (List ℕ)) ℕ → Result (List (List ℕ)) ℕ
with_sources read rest = and_then rest (λ others. Ok (read ++ others))
