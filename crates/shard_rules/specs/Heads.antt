-- The first bytes of a shard file: of which shard it is (this project's own).
use Rattle.std.specs.Prelude.{◌<◌, ◌≤◌, ℕ, Bool, List, ◌++◌, Option, Some, None, Result, Ok, Err, ◌==◌}
use Rattle.std.specs.Prelude.{nat_lt, if◌then◌else◌}
use Rattle.std.specs.Int.{w16, w32, to_be_bytes}
use Rattle.codec_rules.specs.Reading.{Reader, number_at}
use Rattle.codec_rules.specs.Sequence.{◌>>=◌, or_fault, unless}
use Rattle.history_rules.specs.Histories.{at_front}
use Rattle.shard_rules.specs.declared.head.Head.{Head}
use Rattle.shard_rules.specs.declared.head.HeadFault.{HeadFault}
use Rattle.shard_rules.specs.declared.head.HeadFault.TheVariants.{Bad}

-- ---- items

-- A reading function of a part of the front of a shard file. An item of which too few bytes remain
-- is told at its first byte,
abbrev pub FrontReader : Type 0 → Type 0
FrontReader A = Reader HeadFault A

abbrev pub u2_at : FrontReader ℕ
u2_at input = or_fault Bad (number_at w16 input)

abbrev pub u4_at : FrontReader ℕ
u4_at input = or_fault Bad (number_at w32 input)

-- and so is one that doesn't pass a test.
abbrev pub where_at : {A : Type 0} → FrontReader A → (A → Bool) → FrontReader A
where_at read test input = read input >>= λ x. if test x.0 then Ok x else Err (Bad input.at)

-- ---- the head

-- 'MTSH'
abbrev pub magic : ℕ
magic = 0x4d545348

-- The most shards that there are.
abbrev pub most_shards : ℕ
most_shards = 64

-- An index past the number of shards is told at the index, and a number that is too large behind
-- it: at the number.
abbrev pub number_fault : ℕ → ℕ → ℕ → ℕ → Option HeadFault
number_fault index_at of_at index of =
    if nat_lt of index then Some (Bad index_at)
    else if nat_lt most_shards of then Some (Bad of_at) else None

abbrev pub head_of : ℕ → ℕ → Head
head_of index of = record { index = index; of = of }

-- The magic number, the version, which is 1, the index, from 1, and the number of shards.
unfoldable pub head_at : FrontReader Head
head_at input = do
  first ← where_at u4_at (λ n. n == magic) input
  version ← where_at u2_at (λ n. n == 1) first.1
  index ← where_at u2_at (λ n. nat_lt 0 n) version.1
  of ← u2_at index.1
  unless (number_fault version.1.at index.1.at index.0 of.0) (head_of index.0 of.0, of.1)

-- The head that bytes begin with, or the first fault.
abbrev pub head_in : List ℕ → Result Head HeadFault
head_in bytes = head_at (at_front bytes) >>= λ read. Ok read.0

abbrev pub head_bytes : Head → List ℕ
head_bytes h =
    to_be_bytes w32 magic
    ++ (to_be_bytes w16 1 ++ (to_be_bytes w16 h.index ++ to_be_bytes w16 h.of))

-- A shard of those that there are.
pub record IsHead (h : Head) : Type 0 where
  pub first : 0 < h.index
  pub last : h.index ≤ h.of
  pub few : h.of ≤ most_shards
