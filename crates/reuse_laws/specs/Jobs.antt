-- What reuse leaves as it is, and what it saves.
use Rattle.std.specs.Prelude.{◌≡◌, ◌≤◌, List, All, map, Some, is_some}
use Rattle.record_rules.specs.declared.record.RunRecord.{RunRecord}
use Rattle.record_rules.specs.Profiles.{Profile}
use Rattle.record_rules.specs.Records.{Asked, record_of}
use Rattle.record_rules.specs.Matching.{first_match}
use Rattle.record_rules.specs.Truth.{IsTrueRecord}
use Rattle.record_rules.specs.Histories.{known, all_kept, new_records}
use Rattle.record_rules.specs.Jobs.{with_limit, end_of, Job, NeedCost, Cost}
use Rattle.reuse_laws.specs.Asking.{IsProfile, IsAsked}

abbrev pub AreTrue : Profile → List RunRecord → Type 0
AreTrue m old = All (IsTrueRecord m) old

-- With true old records a job has of each run what it had without them.
abbrev pub ReuseChangesNothing : Type 0
ReuseChangesNothing =
    (m : Profile) (old : List RunRecord) (x : Asked) → IsProfile m → AreTrue m old →
    IsAsked m x → end_of old x ≡ record_of x

-- What is known of a run is its record, but for the limit: outcome, steps and lines are the run's.
abbrev pub KnownIsRecord : Type 0
KnownIsRecord =
    (m : Profile) (old : List RunRecord) (x : Asked) (r : RunRecord) → IsProfile m →
    AreTrue m old → IsAsked m x → known old x ≡ Some r →
    record_of x ≡ Some (with_limit x.limit r)

-- What a job has of a run is true where it is an old record with another limit.
abbrev pub ReusedAreTrue : Type 0
ReusedAreTrue =
    (m : Profile) (old : List RunRecord) (x : Asked) (r : RunRecord) → AreTrue m old →
    first_match old x ≡ Some r → IsTrueRecord m (with_limit x.limit r)

-- Old records have no part in the new ones.
abbrev pub OldHaveNoPart : Type 0
OldHaveNoPart =
    (old : List RunRecord) (needed : List Asked) →
    map (λ k. k.entry) (all_kept old needed) ≡ new_records needed

-- Of two runs with equal records an old record matches both or neither, so that it is one question
-- whether a new record was known.
abbrev pub EqualRecordsAreKnownAlike : Type 0
EqualRecordsAreKnownAlike =
    (m : Profile) (old : List RunRecord) (x y : Asked) (r : RunRecord) → IsProfile m →
    AreTrue m old → IsAsked m x → IsAsked m y → record_of x ≡ Some r → record_of y ≡ Some r →
    is_some (first_match old x) ≡ is_some (first_match old y)

-- The runs that are needed cost no more than all.
abbrev pub NeedCostsNoMore : Type 0
NeedCostsNoMore = (old : List RunRecord) (j : Job) → NeedCost old j ≤ Cost old j
