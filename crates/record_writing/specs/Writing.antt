-- What a job leaves can be written.
use Rattle.std.specs.Prelude.{◌≡◌, List, All, Some}
use Rattle.record_rules.specs.declared.record.RunRecord.{RunRecord}
use Rattle.record_rules.specs.Profiles.{Profile}
use Rattle.record_rules.specs.Records.{Asked, record_of}
use Rattle.record_rules.specs.Histories.{new_records}
use Rattle.reuse_laws.specs.Asking.{IsProfile, IsAsked}
use Rattle.history_rules.specs.Fitting.{FitsFields}
use Rattle.history_rules.specs.Laws.{IsFormed, AreWritable}

-- The record of a run that fits the fields of a history has the form of one: all else the run gives.
abbrev pub FittingAreFormed : Type 0
FittingAreFormed =
    (m : Profile) (x : Asked) (r : RunRecord) → IsProfile m → IsAsked m x → record_of x ≡ Some r →
    FitsFields r → IsFormed r

-- The record of a run, if it has one, has the form of a history.
abbrev pub HasFormedRecord : Asked → Type 0
HasFormedRecord x = (r : RunRecord) → record_of x ≡ Some r → IsFormed r

-- The new records of such runs can be written: they have the form, and differ.
abbrev pub NewRecordsAreWritable : Type 0
NewRecordsAreWritable =
    (needed : List Asked) → All HasFormedRecord needed → AreWritable (new_records needed)
