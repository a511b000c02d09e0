-- The bytes of a record in a history, and which records have some (this project's own).
use Rattle.std.specs.Prelude.{◌≡◌, ◌<◌, ◌^◌, ℕ, Bool, true, false, List, [], ◌++◌, length, None}
use Rattle.std.specs.Prelude.{◌==◌, if◌then◌else◌}
use Rattle.std.specs.Int.{w8, w32, w64, to_be_bytes}
use Rattle.class_model.specs.declared.outcome.Cause.{Cause}
use Rattle.class_model.specs.declared.outcome.Cause.TheVariants.{Returned, Thrown}
use Rattle.class_model.specs.declared.outcome.Outcome.{Outcome}
use Rattle.class_model.specs.declared.outcome.Outcome.TheVariants.{Passed, Failed, TimedOut}
use Rattle.class_model.specs.declared.outcome.Outcome.TheVariants.{MemoryOut}
use Rattle.record_rules.specs.declared.record.RunRecord.{RunRecord}
use Rattle.history_rules.specs.Items.{text_bytes, IsText, counted_bytes, AllBy}
use Rattle.history_rules.specs.Entries.{entry_bytes, IsEntry, with_entry, pair_bytes, IsPair}
use Rattle.history_rules.specs.Entries.{with_pair}
use Rattle.history_rules.specs.Reading.{is_paired, are_steps}

-- ---- how the run ended

abbrev pub cause_tag : Cause → ℕ
cause_tag Returned = 0
cause_tag (Thrown name) = 1

abbrev pub cause_content : Cause → List ℕ
cause_content Returned = []
cause_content (Thrown name) = text_bytes name

abbrev pub told_cause_bytes : Cause → List ℕ
told_cause_bytes cause = to_be_bytes w8 (cause_tag cause) ++ cause_content cause

abbrev pub cause_bytes : ℕ → Cause → List ℕ
cause_bytes version cause = if version == 1 then [] else told_cause_bytes cause

abbrev pub outcome_tag : Outcome → ℕ
outcome_tag Passed = 0
outcome_tag (Failed cause) = 1
outcome_tag TimedOut = 2
outcome_tag MemoryOut = 3

abbrev pub outcome_content : ℕ → Outcome → List ℕ
outcome_content version (Failed cause) = cause_bytes version cause
outcome_content version other = []

abbrev pub outcome_bytes : ℕ → Outcome → List ℕ
outcome_bytes version outcome =
    to_be_bytes w8 (outcome_tag outcome) ++ outcome_content version outcome

-- A class that was thrown is a text without a lone surrogate.
abbrev pub IsToldCause : Cause → Type 0
IsToldCause Returned = Unit {0}
IsToldCause (Thrown name) = IsText name × (is_paired name ≡ true)

-- The first version tells no cause.
abbrev pub IsCauseIf : Bool → Cause → Type 0
IsCauseIf true cause = cause ≡ Returned
IsCauseIf false cause = IsToldCause cause

abbrev pub IsCause : ℕ → Cause → Type 0
IsCause version cause = IsCauseIf (version == 1) cause

abbrev pub IsOutcome : ℕ → Outcome → Type 0
IsOutcome version (Failed cause) = IsCause version cause
IsOutcome version other = Unit {0}

-- ---- the record

abbrev pub record_bytes : ℕ → List (List ℕ) → RunRecord → List ℕ
record_bytes version pool r =
    text_bytes r.test_class
    ++ (text_bytes r.test_method
    ++ (to_be_bytes w32 r.heap
    ++ (to_be_bytes w32 r.depth
    ++ (to_be_bytes w64 r.limit
    ++ (outcome_bytes version r.outcome
    ++ (to_be_bytes w64 r.steps
    ++ (counted_bytes (entry_bytes pool) r.consulted
    ++ counted_bytes pair_bytes r.reached)))))))

-- A record has the form of a history, under classes of which so many count as used.
pub record IsRecord (version : ℕ) (pool : List (List ℕ)) (used : ℕ) (r : RunRecord) : Type 0 where
  pub class : IsText r.test_class
  pub method : IsText r.test_method
  pub heap : r.heap < 2 ^ 32
  pub depth : r.depth < 2 ^ 32
  pub limit : r.limit < 2 ^ 64
  pub outcome : IsOutcome version r.outcome
  pub steps : r.steps < 2 ^ 64
  pub within : are_steps r.limit r.outcome r.steps ≡ true
  pub few_names : length r.consulted < 2 ^ 32
  pub names :
      AllBy (IsEntry pool) (with_entry pool) (record { classes = used; names = [] }) r.consulted
  pub few_lines : length r.reached < 2 ^ 32
  pub lines : AllBy (IsPair r.consulted) with_pair None r.reached
