-- What the value under a journal's lock keeps (this project's own).
use Rattle.std.specs.Prelude.{◌≡◌, ◌≤◌, ◌==◌, ℕ, Bool, true, false, List, ◌++◌, take, drop, length}
use Rattle.std.specs.Prelude.{Option, Some, IfSome, Result, Ok, Err, All}
use Rattle.std.specs.Prelude.{if◌then◌else◌}
use Rattle.std.specs.List.{AllByRecursion}
use Rattle.mt_edge.specs.Pieces.{Grows}
use Rattle.mt_edge.specs.declared.outside.EdgeFault.{EdgeFault}
use Rattle.mt_edge.specs.declared.outside.EdgeFault.TheVariants.{Failed, Memory}
use Rattle.record_rules.specs.declared.record.RunRecord.{RunRecord}
use Rattle.run_journal.specs.Laws.{Begins, SaysFirst}
use Rattle.run_journal.specs.Reading.{reading_of, IsRead, IsWhole}
use Rattle.job_journal.specs.Adding.{added_bytes}
use Rattle.job_journal.specs.Tables.{StandsAmong, IsTables}
use Rattle.job_journal.specs.declared.tables.Tables.{Tables}

-- What a contract sees of it: the keeper, how many records were loaded, whether adding one has failed,
-- and how many calls of the keeper have.
pub record Taken (K : Type 0) : Type 0 where
  pub keeper : K
  pub loaded : ℕ
  pub failed : Bool
  pub marked : ℕ

-- The records of a text, and those of them behind the loaded ones.
abbrev pub records_in : ℕ → List ℕ → List RunRecord
records_in profile bytes = (reading_of profile bytes).known.records

abbrev pub added_in : ℕ → ℕ → List ℕ → List RunRecord
added_in profile loaded bytes = drop loaded (records_in profile bytes)

-- What is kept is a beginning of a journal.
abbrev pub IsBeginning : ℕ → Option (List ℕ) → Type 0
IsBeginning profile kept = IfSome kept (λ bytes. IsRead (reading_of profile bytes))

-- What was added is known to hold.
abbrev pub HoldsBehind : (RunRecord → Type 0) → ℕ → ℕ → List ℕ → Type 0
HoldsBehind Holds profile loaded bytes = AllByRecursion Holds (added_in profile loaded bytes)

-- ---- the five facts

-- A beginning of what is kept is a whole journal, and durable.
pub record IsBacked (profile durable : ℕ) (bytes : List ℕ) : Type 0 where
  pub acked : ℕ
  pub within : acked ≤ length bytes
  pub is_durable : acked ≤ durable
  pub whole : IsWhole (reading_of profile (take acked bytes))

-- What is kept is a whole journal with these tables, and all of it is durable.
pub record Stands (profile durable loaded : ℕ) (t : Tables) (bytes : List ℕ) : Type 0 where
  pub whole : IsWhole (reading_of profile bytes)
  pub classes : (reading_of profile bytes).known.classes ≡ t.numbers
  pub loaded_are : loaded ≤ length (records_in profile bytes)
  pub tables : IsTables t (added_in profile loaded bytes)
  pub is_durable : length bytes ≤ durable

-- What is kept is a beginning of a journal, and whole entries while no call has failed; each of its
-- records was loaded or is known to hold; failed calls are counted at the keeper; what was
-- acknowledged is whole and durable; and the records are the loaded ones and those that were added.
pub record Keeps
    (Holds : RunRecord → Type 0) (profile : ℕ) (kept : Option (List ℕ)) (durable writing : ℕ)
    (t : Tables) (loaded : ℕ) (failed : Bool) (marked : ℕ)
    : Type 0 where
  pub text : IsBeginning profile kept
  pub made : IfSome kept (HoldsBehind Holds profile loaded)
  pub marks : marked ≤ writing
  pub unmarked : failed ≡ false → marked ≡ 0
  pub backed : IfSome kept (IsBacked profile durable)
  pub current : failed ≡ false → IfSome kept (Stands profile durable loaded t)

-- ---- what calls give

-- Want of memory, unless a call of the keeper has failed.
abbrev pub fault_by : ℕ → EdgeFault
fault_by marked = if marked == 0 then Memory else Failed

abbrev pub told_by : Bool → ℕ → Result (Unit {0}) EdgeFault
told_by false marked = Ok tt
told_by true marked = Err (fault_by marked)

-- A record was added behind the loaded ones.
abbrev pub IsAdded : ℕ → ℕ → RunRecord → List ℕ → Type 0
IsAdded profile loaded r bytes = StandsAmong r (added_in profile loaded bytes)

-- Unless it was added before, a text gained those classes of a record that it lacked, and the record.
abbrev pub GainsOnce : ℕ → ℕ → RunRecord → Option (List ℕ) → List ℕ → Type 0
GainsOnce profile loaded r now bytes =
    (IsAdded profile loaded r bytes → ⊥) →
    now ≡ Some (bytes ++ added_bytes (reading_of profile bytes).known.classes r)

-- What was kept is kept still, and more behind it.
pub record HasGrown (old now : Option (List ℕ)) : Type 0 where
  pub more : List ℕ
  pub is : Grows old now more

-- A record stands in what is kept, which is a whole journal, and durable.
pub record IsAcknowledged (profile durable : ℕ) (r : RunRecord) (bytes : List ℕ) : Type 0 where
  pub whole : IsWhole (reading_of profile bytes)
  pub among : StandsAmong r (records_in profile bytes)
  pub is_durable : length bytes ≤ durable

-- The records of a text begin with the loaded ones.
pub record HasLoaded
    (profile count : ℕ) (loaded : List RunRecord) (bytes : List ℕ)
    : Type 0 where
  pub count_is : count ≡ length loaded
  pub begins : Begins loaded (records_in profile bytes)

-- Each of its records was loaded, or is known to hold.
pub record TellsKnown
    (Holds : RunRecord → Type 0) (profile : ℕ) (loaded : List RunRecord) (bytes : List ℕ)
    : Type 0 where
  pub added : List RunRecord
  pub records : records_in profile bytes ≡ loaded ++ added
  pub hold : AllByRecursion Holds added

-- They are a whole journal, and all of it is durable.
pub record IsSafe (profile durable : ℕ) (bytes : List ℕ) : Type 0 where
  pub whole : IsWhole (reading_of profile bytes)
  pub is_durable : length bytes ≤ durable

-- The records of all of these stand there.
abbrev pub RecordsAll : {D : Type 0} → ℕ → (D → RunRecord) → List D → List ℕ → Type 0
RecordsAll profile entry due bytes = All (λ d. StandsAmong (entry d) (records_in profile bytes)) due

-- ---- what a stop leaves

-- A stop leaves a beginning of what is kept, with all that was durable. A record that was acknowledged
-- before stands in it, and its records are the first of what is kept.
abbrev pub StopsLoseNothing : Type 0
StopsLoseNothing =
    (profile durable count : ℕ) (r : RunRecord) (bytes more : List ℕ) →
    IsAcknowledged profile durable r bytes → IsRead (reading_of profile (bytes ++ more)) →
    durable ≤ count →
    IsRead (reading_of profile (take count (bytes ++ more)))
    × StandsAmong r (records_in profile (take count (bytes ++ more)))
    × SaysFirst (reading_of profile (take count (bytes ++ more)))
    (reading_of profile (bytes ++ more))
