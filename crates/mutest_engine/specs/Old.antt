-- What the history of earlier runs has (this project's own).
use Rattle.std.specs.Prelude.{◌≡◌, ℕ, List, [], length, nat_lt, if◌then◌else◌, Option, None, Some}
use Rattle.std.specs.Prelude.{Result, Ok, Err}
use Rattle.std.specs.FinMap.{get}
use Rattle.mt_edge.specs.Files.{Files}
use Rattle.record_rules.specs.declared.record.RunRecord.{RunRecord}
use Rattle.history_rules.specs.Histories.{most, read_as}
use Rattle.history_rules.specs.declared.fault.HistoryFault.{HistoryFault}
use Rattle.history_rules.specs.declared.fault.HistoryFault.TheVariants as fault
use Rattle.history_file.specs.Rows.{records_of}
use Rattle.history_index.specs.Numbers.{Indexed}
use Rattle.mutest_engine.specs.Steps.{and_then}
use Rattle.mutest_engine.specs.declared.refusal.Refusal.{Refusal}
use Rattle.mutest_engine.specs.declared.refusal.Refusal.TheVariants.{HistoryBad}

-- The profile number under which this tool writes and reads histories.
abbrev pub profile_number : ℕ
profile_number = 1

-- ---- its bytes

-- A history of more than 536,870,912 bytes is refused at the first byte past them.
abbrev pub refuse_long_history : ℕ → Result (Unit {0}) Refusal
refuse_long_history count = if nat_lt most count then Err (HistoryBad most) else Ok tt

abbrev pub short_history : List ℕ → Result (Option (List ℕ)) Refusal
short_history bytes = and_then (refuse_long_history (length bytes)) (λ few. Ok (Some bytes))

-- One that isn't held is none.
abbrev pub held_history : Option (List ℕ) → Result (Option (List ℕ)) Refusal
held_history None = Ok None
held_history (Some bytes) = short_history bytes

abbrev pub history_at : List ℕ → Files → Result (Option (List ℕ)) Refusal
history_at path files = held_history (get files path)

-- The history at a path, where there is one.
abbrev pub history_bytes : Option (List ℕ) → Files → Result (Option (List ℕ)) Refusal
history_bytes None files = Ok None
history_bytes (Some path) files = history_at path files

-- Without a path there are none.
abbrev pub IsOfPath : Option (List ℕ) → Option (List ℕ) → Type 0
IsOfPath None bytes = bytes ≡ None
IsOfPath (Some path) bytes = Unit {0}

-- ---- its records

-- Bytes that are no history are told by their first fault. To read has no other fault than that.
abbrev pub bad_history : HistoryFault → Refusal
bad_history (fault.HistoryBad at) = HistoryBad at
bad_history (fault.TooLong len) = HistoryBad len
bad_history fault.Memory = HistoryBad 0

abbrev pub or_bad_history : Result (List RunRecord) HistoryFault → Result (List RunRecord) Refusal
or_bad_history (Ok records) = Ok records
or_bad_history (Err f) = Err (bad_history f)

-- No history has no records.
abbrev pub records_in : Option (List ℕ) → Result (List RunRecord) Refusal
records_in None = Ok []
records_in (Some bytes) = or_bad_history (read_as profile_number bytes)

abbrev pub old_records : Option (List ℕ) → Files → Result (List RunRecord) Refusal
old_records path files = and_then (history_bytes path files) records_in

-- The records that an index has.
abbrev pub indexed_records : Indexed → List RunRecord
indexed_records i = records_of i.history
