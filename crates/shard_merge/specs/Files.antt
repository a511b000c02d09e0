-- What calls that read shard files give (this project's own).
use Rattle.std.specs.Prelude.{◌≡◌, ℕ, List, Result, Ok, Err}
use Rattle.std.specs.Borrow.{Bor}
use Rattle.codec_rules.specs.Input.{Input}
use Rattle.codec_rules.specs.Meets.{Gives}
use Rattle.codec_rules.specs.Sequence.{or_fault}
use Rattle.codec_rules.specs.Spelling.{input_at}
use Rattle.history_rules.specs.declared.fault.HistoryFault.{HistoryFault}
use Rattle.history_rules.specs.declared.fault.HistoryFault.TheVariants as history_fault
use Rattle.history_rules.specs.Histories.{at_front}
use Rattle.history_file.specs.Rows.{Numbered, records_of}
use Rattle.shard_rules.specs.declared.head.Head.{Head}
use Rattle.shard_rules.specs.declared.head.HeadFault.{HeadFault}
use Rattle.shard_rules.specs.declared.head.HeadFault.TheVariants as head_fault
use Rattle.shard_rules.specs.Heads.{FrontReader}
use Rattle.shard_rules.specs.Files.{Shard, bad_from, front_at, records_from, shard_of}
use Rattle.shard_rules.specs.Laws.{IsPlaced}
use Rattle.shard_merge.specs.declared.fault.ShardFault.{ShardFault}
use Rattle.shard_merge.specs.declared.fault.ShardFault.TheVariants.{Bad, Memory}
use Rattle.shard_merge.specs.declared.file.ShardFile.{ShardFile}

-- ---- heads

-- A call that takes no memory reads exactly as the definition does.
abbrev pub ReadsFront : {A : Type 0} → FrontReader A → Input → Input → Result A HeadFault → Type 0
ReadsFront read old new (Ok value) = read old ≡ Ok (value, new)
ReadsFront read old new (Err fault) = read old ≡ Err fault

-- The head of a shard file, and what stands behind it.
abbrev pub SplitsFront : List ℕ → Result (Head × Bor (List ℕ)) HeadFault → Type 0
SplitsFront bytes (Ok x) = front_at (at_front bytes) ≡ Ok (x.0, input_at 10 x.1.now)
SplitsFront bytes (Err fault) = front_at (at_front bytes) ≡ Err fault

-- ---- faults

abbrev pub fault_of : HeadFault → ShardFault
fault_of (head_fault.Bad at) = Bad at

-- A fault of reading a history is want of memory, or tells a place.
abbrev pub MayBeTold : HistoryFault → Type 0
MayBeTold (history_fault.HistoryBad at) = IsPlaced (history_fault.HistoryBad at)
MayBeTold (history_fault.TooLong len) = ⊥
MayBeTold history_fault.Memory = Unit {0}

-- ---- files

-- The records of a history that begins at this place, by number.
abbrev pub GivesRecords : ℕ → Input → Result Numbered ShardFault → Type 0
GivesRecords profile input result =
    Gives Memory records_of (or_fault fault_of (records_from profile input)) result

-- The shard that a file read by number is.
abbrev pub shard_in : ShardFile → Shard
shard_in f = record { head = f.head; records = records_of f.history }

abbrev pub GivesShard : ℕ → List ℕ → Result ShardFile ShardFault → Type 0
GivesShard profile bytes result =
    Gives Memory shard_in (or_fault fault_of (shard_of profile bytes)) result

-- The fault of a history that begins at this place, as it is told of the file.
abbrev pub TellsFault : ℕ → HistoryFault → ShardFault → Type 0
TellsFault from history_fault.Memory told = told ≡ Memory
TellsFault from fault told = told ≡ fault_of (bad_from from fault)
