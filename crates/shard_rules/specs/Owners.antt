-- Which shard owns what (this project's own).
use Rattle.std.specs.Prelude.{ℕ, ◌+◌, ◌%◌, List, [], ◌∷◌, Bool, nat_eq, if◌then◌else◌}
use Rattle.std.specs.List.{flat_map}
use Rattle.record_rules.specs.declared.record.RunRecord.{RunRecord}
use Rattle.job_rules.specs.Shards.{owned_from}
use Rattle.shard_rules.specs.Files.{Shard}

-- Shard i of n owns what stands at place k of a list, from 0, where k mod n is i - 1.
abbrev pub owner_of : ℕ → ℕ → ℕ
owner_of k n = k % n + 1

abbrev pub owns : ℕ → ℕ → ℕ → Bool
owns k i n = nat_eq (owner_of k n) i

-- What it owns of a list, in order.
abbrev pub owned : {X : Type 0} → ℕ → ℕ → List X → List X
owned i n xs = owned_from i n 0 xs

-- ---- records

-- All records, in the order of the files.
abbrev pub all_records : List Shard → List RunRecord
all_records ss = flat_map (λ s. s.records) ss

-- Those of the shard of an index.
abbrev pub records_of : List Shard → ℕ → List RunRecord
records_of [] i = []
records_of (s ∷ ss) i = if nat_eq s.head.index i then s.records else records_of ss i
