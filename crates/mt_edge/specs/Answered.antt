-- What the calls of a tree answer, by the files that it tells; where it tells none, nothing is
-- said. This project's own.
use Rattle.std.specs.Prelude.{◌≡◌, ◌⊎◌, ℕ, List, map, string_bytes, filter, Option, Some, None, IfSome, option_map, Result, IfOk, MatchOption}
use Rattle.std.specs.Borrow.{Bor}
use Rattle.std.specs.FinMap.{get, insert, keys}
use Rattle.std.specs.Global.{Vec, Global}
use Rattle.std.specs.declared.string.String.{String}
use Rattle.mt_edge.specs.Files.{Files, begins_with, listed, length_at}
use Rattle.mt_edge.specs.declared.outside.EdgeFault.{EdgeFault}

-- the paths below a folder
abbrev pub ListsBelow : List ℕ → Option Files → Result (Vec (String Global)) EdgeFault → Type 0
ListsBelow folder held result =
    IfOk result (λ paths. IfSome held (λ files. map string_bytes paths.items ≡ listed folder files))

-- how many bytes a path holds
abbrev pub TellsLength : List ℕ → Option Files → Result (Option ℕ) EdgeFault → Type 0
TellsLength path held result =
    IfOk result (λ found. IfSome held (λ files. found ≡ length_at path files))

-- the bytes that a path holds
abbrev pub ReadsAt : List ℕ → Option Files → Result (Option (List ℕ)) EdgeFault → Type 0
ReadsAt path held result = IfOk result (λ found. IfSome held (λ files. found ≡ get files path))

-- the files with these bytes at a path
abbrev pub with_bytes : List ℕ → List ℕ → Option Files → Option Files
with_bytes path bytes held = option_map (λ files. insert files path bytes) held

-- A path was replaced,
abbrev pub IsReplaced : List ℕ → List ℕ → Option Files → Option Files → Type 0
IsReplaced path bytes old new = new ≡ with_bytes path bytes old

-- or it holds what it held.
abbrev pub OldOrReplaced : List ℕ → List ℕ → Option Files → Option Files → Type 0
OldOrReplaced path bytes old new = (new ≡ old) ⊎ IsReplaced path bytes old new

-- ---- of a tree in memory

-- the paths that begin so
abbrev pub NamesWith : List ℕ → Files → Vec (String Global) → Type 0
NamesWith front files paths = map string_bytes paths.items ≡ filter (begins_with front) (keys files)

-- the bytes that a path holds, lent
abbrev pub LendsAt : List ℕ → Files → Option (Bor (List ℕ)) → Type 0
LendsAt path files lent =
    MatchOption lent (get files path ≡ None) (λ bytes. get files path ≡ Some bytes.now)
