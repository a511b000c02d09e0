-- What the tree and the sink in memory hold, and which calls they let fail. This project's own.
use Rattle.std.specs.Prelude.{ℕ, ◌+◌, ◌-◌, ◌^◌, List, [], Bool, min, map, fold, string_bytes, ◌==◌}
use Rattle.std.specs.List.{list_any}
use Rattle.std.specs.BTreeMap.{BTreeMap}
use Rattle.std.specs.FinMap.{from_entries, insert}
use Rattle.std.specs.declared.string.String.{String}
use Rattle.std.specs.declared.alloc.Global.{Global}
use Rattle.mt_edge.specs.Files.{Files}

-- a file as it is handed in: its path, and its bytes
abbrev pub path_and_bytes : String Global × List ℕ → List ℕ × List ℕ
path_and_bytes file = (string_bytes file.0, file.1)

-- the files of a list, each put in the place of what its path had
abbrev pub files_in : List (String Global × List ℕ) → Files
files_in files = fold (λ held file. insert held (string_bytes file.0) file.1) (from_entries []) files

-- the files of an ordered map
abbrev pub files_of : BTreeMap (String Global) (List ℕ) → Files
files_of held = from_entries (map path_and_bytes held.entries)

-- which call comes next, counted from 0, and the numbers of the calls that are to fail
pub record Script : Type 0 where
  pub call : ℕ
  pub failing : List ℕ

-- no call was made yet
abbrev pub first_call : List ℕ → Script
first_call failing = record { call = 0; failing = failing }

-- the next call is to fail
abbrev pub fails : Script → Bool
fails s = list_any (λ n. n == s.call) s.failing

-- a call was made
abbrev pub after_call : Script → Script
after_call s = record { call = min (s.call + 1) (2 ^ 64 - 1); failing = s.failing }
