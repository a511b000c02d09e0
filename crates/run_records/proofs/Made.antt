-- What is recorded of a run is its record, or the place where it is stuck.
use Rattle.std.proofs.Common.{◌≡◌, ◌∙◌, ℕ, ◌<◌, ◌≤◌, ◌^◌, List, length, Option, None, Some, sym, ap, ap₂, subst, arith}
use Rattle.std.specs.Prelude.{Bool, true, false, IsTrue, IsSomeAnd}
use Rattle.std.specs.Option.{option_map}
use Rattle.std.proofs.lemmas.List.{length-map}
use Rattle.class_model.specs.declared.outcome.Outcome.{Outcome}
use Rattle.program_rules.specs.Names.{Name}
use Rattle.machine_rules.specs.declared.machine.Limits.{Limits}
use Rattle.machine_rules.specs.Runs.{Ending, Ran, With, StuckAt}
use Rattle.machine_rules.specs.Steps.{Place}
use Rattle.class_link.specs.Info.{Info}
use Rattle.class_table.specs.declared.scripted.Test.{Test}
use Rattle.jvm_run.specs.declared.ending.Ending as code
use Rattle.jvm_run.specs.declared.ending.Ending.TheVariants as ending
use Rattle.jvm_run.specs.declared.result.RunResult.{RunResult}
use Rattle.jvm_run.specs.Ending.{ending_in}
use Rattle.jvm_run.specs.Result.{IsResultOf}
use Rattle.record_rules.specs.declared.record.RunRecord.{RunRecord}
use Rattle.record_rules.specs.Outcomes.{outcome_at}
use Rattle.record_rules.specs.Records.{Asked, reached_in, record_by, record_of, record_with, run, with_bytes}
use Rattle.history_rules.specs.Fitting.{FitsFields}
use Rattle.run_records.specs.declared.recorded.Recorded.{Recorded}
use Rattle.run_records.specs.declared.recorded.Recorded.TheVariants.{Unwritable, Stuck}
use Rattle.run_records.specs.declared.recording.Lists.{Lists}
use Rattle.run_records.specs.Asking.{asked, held_by}
use Rattle.run_records.specs.Recorded.{AreListsOf, IsRecordedBy, IsRecordedOf, IsUnfit, KeepsIfFits, Tells}

pub not_unfit : (r : RunRecord) (b : Bool) → (FitsFields r → IsTrue b) → b ≡ false → IsUnfit r
not_unfit r true to is fits = absurd cc
not_unfit r false to is fits = absurd (let h : false ≡ true = to fits in cc)

-- of the run that is asked for
of_run : (x : Asked) (r : Recorded) → IsRecordedBy x (run x) r → IsRecordedOf x r
unfolding record_of
of_run x r h = h

-- ---- a run that ends with an outcome

abbrev outcome_or : code.Ending → Outcome → Outcome
outcome_or (ending.With o) d = o
outcome_or (ending.Stuck class method at) d = d

with_case : (e : Ending) (o : Outcome) → ending.With o ≡ ending_in e → outcome_at e ≡ Some o
with_case (With m) o h = ap Some (sym (ap (λ (k : code.Ending). outcome_or k o) h))
with_case (StuckAt place) o h = absurd cc

has_record : (x : Asked) (ran : Ran) (o : Outcome) → ending.With o ≡ ending_in ran.ending → record_by x ran ≡ Some (record_with x ran o)
has_record x ran o h = ap (option_map (record_with x ran)) (with_case ran.ending o h)

module _ (p : List Info) (test : Test) (limits : Limits) (limit : ℕ) (given : RunResult) (o : Outcome) where
  abbrev x : Asked
  x = asked p test limits limit

  -- the fields of a record that go by what the run gave
  abbrev record_built : ℕ → List (Name × Option (List ℕ)) → List (ℕ × ℕ) → RunRecord
  record_built steps consulted reached = record {
    test_class = test.class;
    test_method = test.method;
    heap = limits.heap;
    depth = limits.depth;
    limit = limit;
    outcome = o;
    steps = steps;
    consulted = consulted;
    reached = reached;
  }

  module _ (told : given.ending ≡ ending.With o) (is : IsResultOf p given (run x)) where
    ended : ending.With o ≡ ending_in (run x).ending
    ended = sym told ∙ is.ending

    made : (l : Lists) (r : RunRecord) → AreListsOf p given.consulted given.reached l → r ≡ record_built given.steps l.consulted l.reached → record_by x (run x) ≡ Some r
    made l r lists built =
        let ran = run x in
        let consulted : l.consulted ≡ with_bytes (held_by p) ran.consulted = lists.consulted ∙ ap (with_bytes (held_by p)) is.consulted in
        let reached : l.reached ≡ reached_in ran.consulted ran.reached = lists.reached ∙ ap₂ reached_in is.consulted is.reached in
        let same : r ≡ record_with x ran o =
        built
        ∙ ap (λ n. record_built n l.consulted l.reached) is.steps
        ∙ ap₂ (record_built ran.steps) consulted reached in
        has_record x ran o ended ∙ ap Some (sym same)

    -- what is recorded goes by its record
    pub goes_by : (l : Lists) (r : RunRecord) (kept : Recorded) → AreListsOf p given.consulted given.reached l → r ≡ record_built given.steps l.consulted l.reached → KeepsIfFits r kept → IsRecordedOf x kept
    goes_by l r kept lists built tells =
        of_run x kept (subst (λ (k : Option RunRecord). Tells k (run x).ending kept) (sym (made l r lists built)) (tells (run x).ending))

    -- the record is that of the run
    pub record_is : (l : Lists) (r : RunRecord) → AreListsOf p given.consulted given.reached l → r ≡ record_built given.steps l.consulted l.reached → Some r ≡ record_of x
    unfolding record_of
    record_is l r lists built = sym (made l r lists built)

    -- so many names have no place in a history
    pub too_many : 2 ^ 32 ≤ length given.consulted → IsRecordedOf x Unwritable
    too_many many =
        let ran = run x in
        let unfit : IsUnfit (record_with x ran o) = λ fits.
        let few : length (with_bytes (held_by p) ran.consulted) < 2 ^ 32 = fits.few_names in
        let l : length (with_bytes (held_by p) ran.consulted) ≡ length ran.consulted = length-map ran.consulted (λ n. (n, held_by p n)) in
        let same : length given.consulted ≡ length ran.consulted = ap length is.consulted in
        omega (arith, few, l, same, many) in
        of_run x Unwritable (subst (λ (k : Option RunRecord). IsSomeAnd k IsUnfit) (sym (has_record x ran o ended)) unfit)

-- ---- a run that is stuck

abbrev class_or : code.Ending → Name → Name
class_or (ending.With o) d = d
class_or (ending.Stuck class method at) d = class

abbrev method_or : code.Ending → Name → Name
method_or (ending.With o) d = d
method_or (ending.Stuck class method at) d = method

abbrev at_or : code.Ending → ℕ → ℕ
at_or (ending.With o) d = d
at_or (ending.Stuck class method at) d = at

stuck_at : (e : Ending) (class method : Name) (at : ℕ) → ending.Stuck class method at ≡ ending_in e → e ≡ StuckAt (record { class = class; method = method; at = at })
stuck_at (With o) class method at h = absurd cc
stuck_at (StuckAt place) class method at h =
    let same : record { class = class; method = method; at = at } ≡ place =
    ap (λ (n : Name). record { class = n; method = method; at = at }) (ap (λ (k : code.Ending). class_or k class) h)
    ∙ ap (λ (n : Name). record { class = place.class; method = n; at = at }) (ap (λ (k : code.Ending). method_or k method) h)
    ∙ ap (λ (n : ℕ). record { class = place.class; method = place.method; at = n }) (ap (λ (k : code.Ending). at_or k at) h) in
    ap StuckAt (sym same)

pub stuck : (p : List Info) (test : Test) (limits : Limits) (limit : ℕ) (given : RunResult) (class method : Name) (at : ℕ) → given.ending ≡ ending.Stuck class method at → IsResultOf p given (run (asked p test limits limit)) → IsRecordedOf (asked p test limits limit) (Stuck class method at)
stuck p test limits limit given class method at told is =
    let x = asked p test limits limit in
    of_run x (Stuck class method at) (stuck_at (run x).ending class method at (sym told ∙ is.ending))

none_by : (x : Asked) (ran : Ran) (place : Place) → ran.ending ≡ StuckAt place → record_by x ran ≡ None
none_by x ran place h = ap (λ (e : Ending). option_map (record_with x ran) (outcome_at e)) h

pub stuck_has_none : (p : List Info) (test : Test) (limits : Limits) (limit : ℕ) (given : RunResult) (class method : Name) (at : ℕ) → given.ending ≡ ending.Stuck class method at → IsResultOf p given (run (asked p test limits limit)) → None ≡ record_of (asked p test limits limit)
unfolding record_of
stuck_has_none p test limits limit given class method at told is =
    let x = asked p test limits limit in
    sym (none_by x (run x) (record { class = class; method = method; at = at }) (stuck_at (run x).ending class method at (sym told ∙ is.ending)))
