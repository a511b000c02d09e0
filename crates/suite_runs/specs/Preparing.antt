-- What is prepared for the cells of a job (this project's own).
use Rattle.std.specs.Prelude.{◌≡◌, ◌≤◌, ◌+◌, ◌*◌, ◌⊎◌, ℕ, Bool, true, false, List, [], map, nat_lt, zip}
use Rattle.std.specs.Prelude.{All, Result, Ok, Err}
use Rattle.class_model.specs.declared.memory.Memory.{Memory}
use Rattle.machine_rules.specs.declared.machine.Limits.{Limits}
use Rattle.machine_rules.specs.Runs.{limit_of}
use Rattle.class_link.specs.Info.{Info}
use Rattle.class_table.specs.declared.scripted.Test.{Test}
use Rattle.line_coverage.specs.Coverage.{Covered}
use Rattle.mutator_ops.specs.declared.mutant.Mutant.{Mutant}
use Rattle.suite_workers.specs.Below.{AreViable}
use Rattle.suite_workers.specs.Jobs.{most_steps}
use Rattle.suite_workers.specs.Old.{AreLookUps, history_in, history_of, old_of, records_in}
use Rattle.suite_workers.specs.Originals.{AreKnown}
use Rattle.suite_workers.specs.Said.{IsKnownIn, known_record}
use Rattle.suite_workers.specs.declared.old_records.OldRecords.{OldRecords}
use Rattle.suite_workers.specs.declared.said.KnownRun.{KnownRun}
use Rattle.suite_workers.specs.declared.setup.JobSetup.{JobSetup}
use Rattle.job_answers.specs.declared.refusal.JobRefusal.{JobRefusal}
use Rattle.job_answers.specs.declared.refusal.JobRefusal.TheVariants.{TooManyCells}
use Rattle.job_answers.specs.Answers.{JobAnswer, most_cells, unless_failed}
use Rattle.suite_runs.specs.declared.fault.JobFault.{JobFault}
use Rattle.suite_runs.specs.declared.fault.JobFault.TheVariants as fault
use Rattle.suite_runs.specs.declared.job.SuiteJob.{SuiteJob}
use Rattle.suite_runs.specs.declared.prepared.Prepared.{Prepared}
use Rattle.suite_runs.specs.Covering.{count_all, numbers_of}
use Rattle.suite_runs.specs.Ending.{MayRunJob}
use Rattle.suite_runs.specs.Failing.{failed_among}
use Rattle.suite_runs.specs.Originals.{all_tried, original_cost}
use Rattle.suite_runs.specs.Reaching.{CoversKnown}

-- How many steps the runs of tests on mutants may take, by what is known of those on the program.
abbrev pub AreBoundsBy : List KnownRun → List ℕ → Type 0
AreBoundsBy runs bounds = bounds ≡ map (λ k. limit_of (known_record k).steps) runs

module _ (p : List Info) (j : SuiteJob) (old : OldRecords) where
  -- The job may be run where the meter stands somewhere.
  abbrev pub MayBeRun : Type 0
  MayBeRun = (meter : ℕ) × MayRunJob p j old meter

  -- ---- the runs of the tests on the program

  -- These are known of them, found ones of the old records' own history, and took at most what they
  -- may.
  pub record AreOriginals (runs : List KnownRun) : Type 0 where
    pub known : AreKnown (all_tried p j (records_in old)) runs
    pub histories : All (IsKnownIn (history_in old)) runs
    pub within : All (λ k. (known_record k).steps ≤ most_steps) runs

  -- All pass besides.
  pub record AreGreen (runs : List KnownRun) : Type 0 where
    pub are : AreOriginals runs
    pub green : failed_among (map known_record runs) ≡ []

  -- Some don't, and so the job is refused.
  pub record RefusesFailed (refusal : JobRefusal) : Type 0 where
    pub runs : List KnownRun
    pub are : AreOriginals runs
    pub refused : (next : Result JobAnswer JobRefusal) →
        unless_failed (failed_among (map known_record runs)) next ≡ Err refusal

  -- ---- all that is prepared

  -- Which mutants are viable, and a coverage of the tests.
  pub record AreCovered (runs : List KnownRun) (viable : List Bool) (cover : Covered) : Type 0 where
    pub told : AreViable p j.mutants.now viable
    pub covers : CoversKnown p runs cover

  abbrev pub cells_by : List Bool → Covered → ℕ
  cells_by viable cover = count_all p cover (zip j.mutants.now viable)

  pub record IsReadied (x : Prepared) : Type 0 where
    pub runs : AreGreen x.runs
    pub cover : Covered
    pub covered : AreCovered x.runs x.viable cover
    pub few : nat_lt most_cells (cells_by x.viable cover) ≡ false
    pub covering_is : x.covering ≡ map (numbers_of p cover) (zip j.mutants.now x.viable)
    pub bounds : AreBoundsBy x.runs x.bounds
    pub look_ups : AreLookUps p j.tests.now j.limits x.bounds x.look_ups
    pub old_is : old_of x.look_ups ≡ records_in old
    pub history : history_of x.look_ups ≡ history_in old

  -- There are too many cells, and so the job is refused.
  pub record RefusesMany (refusal : JobRefusal) : Type 0 where
    pub runs : List KnownRun
    pub are : AreGreen runs
    pub viable : List Bool
    pub cover : Covered
    pub covered : AreCovered runs viable cover
    pub many : nat_lt most_cells (cells_by viable cover) ≡ true
    pub refused : refusal ≡ TooManyCells

  -- ---- how preparing ends

  abbrev pub GreenEnds : Result (List KnownRun) JobFault → Type 0
  GreenEnds (Ok runs) = AreGreen runs
  GreenEnds (Err (fault.Refused refusal)) = RefusesFailed refusal
  GreenEnds (Err fault.Unwritable) = ⊥
  GreenEnds (Err fault.Memory) = Unit {0}

  abbrev pub ReadyEnds : Result Prepared JobFault → Type 0
  ReadyEnds (Ok x) = IsReadied x
  ReadyEnds (Err (fault.Refused refusal)) = RefusesMany refusal
  ReadyEnds (Err fault.Unwritable) = ⊥
  ReadyEnds (Err fault.Memory) = Unit {0}

  abbrev pub Prepares : Result Prepared JobFault → Type 0
  Prepares (Ok x) = IsReadied x
  Prepares (Err (fault.Refused refusal)) = RefusesFailed refusal ⊎ RefusesMany refusal
  Prepares (Err fault.Unwritable) = ⊥
  Prepares (Err fault.Memory) = Unit {0}

-- The meter rose by at most this for each worker.
pub record RoseAtMost (workers cost before after : ℕ) : Type 0 where
  pub from : before ≤ after
  pub most : after ≤ before + workers * cost

-- It rose by this, or by at most this for each worker where memory ran out.
abbrev pub RisesBy : {X : Type 0} → ℕ → ℕ → ℕ → ℕ → Result X JobFault → Type 0
RisesBy workers cost before after (Ok x) = after ≡ before + cost
RisesBy workers cost before after (Err (fault.Refused refusal)) = after ≡ before + cost
RisesBy workers cost before after (Err fault.Unwritable) = ⊥
RisesBy workers cost before after (Err fault.Memory) = RoseAtMost workers cost before after

-- How the original runs end.
abbrev pub OriginalEnds :
    List Info → SuiteJob → OldRecords → ℕ → ℕ → Result (List KnownRun) Memory → Type 0
OriginalEnds p j old before after (Ok runs) =
    AreOriginals p j old runs × (after ≡ before + original_cost p j (records_in old))
OriginalEnds p j old before after (Err memory) =
    RoseAtMost j.workers (original_cost p j (records_in old)) before after

-- What the workers share is of what is prepared.
pub record IsSetupFor
    (mutants : List Mutant) (tests : List Test) (limits : Limits) (all : Bool) (x : Prepared)
    (c : JobSetup)
    : Type 0 where
  pub mutants_are : c.mutants.now ≡ mutants
  pub covering : c.covering.now ≡ x.covering
  pub tests_are : c.tests.now ≡ tests
  pub bounds : c.bounds.now ≡ x.bounds
  pub limits_are : c.limits ≡ limits
  pub all_is : c.all ≡ all
  pub look_ups : c.look_ups.now ≡ x.look_ups
