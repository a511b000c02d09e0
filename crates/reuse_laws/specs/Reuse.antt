-- Which runs need not be made.
use Rattle.std.specs.Prelude.{◌≡◌, ℕ, true, List, Some, is_some}
use Rattle.std.specs.List.{Contains}
use Rattle.record_rules.specs.declared.record.RunRecord.{RunRecord}
use Rattle.record_rules.specs.Profiles.{Profile}
use Rattle.record_rules.specs.Records.{Asked, record_of}
use Rattle.record_rules.specs.Matching.{matches, fits_limit, first_match}
use Rattle.record_rules.specs.Truth.{IsTrueRecord, files_in}
use Rattle.record_rules.specs.Jobs.{with_limit}
use Rattle.reuse_laws.specs.Asking.{IsProfile, IsAsked, AreSpelled}

-- A true record that matches a run is that run's record, but for the limit: outcome, steps,
-- consulted names with their bytes, and reached lines are those of the run.
abbrev pub MatchingRecordsAreRuns : Type 0
MatchingRecordsAreRuns =
    (m : Profile) (x : Asked) (r : RunRecord) → IsProfile m → IsAsked m x → IsTrueRecord m r →
    matches r x ≡ true → record_of x ≡ Some (with_limit x.limit r)

-- A true record stays true under each limit that it fits.
abbrev pub TrueUnderLimits : Type 0
TrueUnderLimits =
    (m : Profile) (r : RunRecord) (limit : ℕ) → IsTrueRecord m r → fits_limit r limit ≡ true →
    IsTrueRecord m (with_limit limit r)

-- The record of a run that isn't stuck is true, where the class files that it consulted are a
-- program by themselves.
abbrev pub RecordsOfRunsAreTrue : Type 0
RecordsOfRunsAreTrue =
    (m : Profile) (x : Asked) (r : RunRecord) → IsProfile m → IsAsked m x → AreSpelled m x.held →
    record_of x ≡ Some r → m.builds (files_in r.consulted) ≡ true → IsTrueRecord m r

-- The record of a run matches that run.
abbrev pub RecordsMatchTheirRuns : Type 0
RecordsMatchTheirRuns =
    (m : Profile) (x : Asked) (r : RunRecord) → IsProfile m → IsAsked m x → record_of x ≡ Some r →
    matches r x ≡ true

-- So a run is found among records that have its record.
abbrev pub KeptRunsAreFound : Type 0
KeptRunsAreFound =
    (m : Profile) (x : Asked) (r : RunRecord) (old : List RunRecord) → IsProfile m → IsAsked m x →
    record_of x ≡ Some r → Contains old r → is_some (first_match old x) ≡ true
