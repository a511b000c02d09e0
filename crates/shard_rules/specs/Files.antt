-- The text of a shard file: its head, and behind it the text of a history of the version that is
-- written (this project's own).
use Rattle.std.specs.Prelude.{ℕ, ◌+◌, List, ◌++◌, length, Result, Ok, Err, ◌==◌, nat_lt}
use Rattle.std.specs.Prelude.{if◌then◌else◌}
use Rattle.codec_rules.specs.Input.{Input}
use Rattle.codec_rules.specs.Sequence.{◌>>=◌, or_fault}
use Rattle.record_rules.specs.declared.record.RunRecord.{RunRecord}
use Rattle.history_rules.specs.declared.fault.HistoryFault.{HistoryFault}
use Rattle.history_rules.specs.declared.fault.HistoryFault.TheVariants.{HistoryBad, TooLong, Memory}
use Rattle.history_rules.specs.Histories as history
use Rattle.history_rules.specs.Histories.{at_front, read_as, HistoryText}
use Rattle.shard_rules.specs.Heads.{FrontReader, u2_at, u4_at, where_at, head_at, head_bytes}
use Rattle.shard_rules.specs.declared.head.Head.{Head}
use Rattle.shard_rules.specs.declared.head.HeadFault.{HeadFault}
use Rattle.shard_rules.specs.declared.head.HeadFault.TheVariants.{Bad}

-- What a shard file has: of which shard it is, and its records.
pub record Shard : Type 0 where
  pub head : Head
  pub records : List RunRecord

-- ---- reading

-- The front of a history of the version that is written: another version is told at its place.
unfoldable pub second_at : FrontReader ℕ
second_at input = do
  first ← where_at u4_at (λ n. n == history.magic) input
  where_at u2_at (λ n. n == 2) first.1

-- The head, up to such a history.
unfoldable pub front_at : FrontReader Head
front_at input = head_at input >>= λ head. second_at head.1 >>= λ version. Ok head

-- A fault of a history that begins at this place. To read one has no other fault than the first
-- of these.
abbrev pub bad_from : ℕ → HistoryFault → HeadFault
bad_from from (HistoryBad at) = Bad (from + at)
bad_from from (TooLong len) = Bad (from + len)
bad_from from Memory = Bad from

abbrev pub records_from : ℕ → Input → Result (List RunRecord) HeadFault
records_from profile input = or_fault (bad_from input.at) (read_as profile input.bytes)

unfoldable pub shard_at : ℕ → Input → Result Shard HeadFault
shard_at profile input = do
  front ← front_at input
  records ← records_from profile front.1
  Ok (record { head = front.0; records = records })

-- The most bytes that a shard file has: a head's, and those of a history.
abbrev pub most : ℕ
most = 536870922

-- What the bytes of a shard file are for a tool of this profile number, or the first fault: of a
-- history of another number there are no records. A file that is too long is told before all else,
-- at the first byte past the most.
unfoldable pub shard_of : ℕ → List ℕ → Result Shard HeadFault
shard_of profile bytes =
    if nat_lt most (length bytes) then Err (Bad most) else shard_at profile (at_front bytes)

-- ---- writing

-- The text of a shard with these records.
abbrev pub ShardText : ℕ → Head → List RunRecord → List ℕ
ShardText profile head records = head_bytes head ++ HistoryText profile records
