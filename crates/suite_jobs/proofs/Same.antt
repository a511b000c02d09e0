-- A job has the same runs with true old records as without any.
use Rattle.std.proofs.Common.{◌≡◌, ◌∙◌, ℕ, List, [], ◌∷◌, map, Option, Some, None, refl, sym, ap}
use Rattle.std.specs.List.{AllByRecursion}
use Rattle.std.specs.Option.{option_map_or}
use Rattle.std.proofs.lemmas.List.Elements.{recursion_from_All}
use Rattle.class_model.specs.declared.class.Class.{Class}
use Rattle.machine_rules.specs.Runs.{limit_of}
use Rattle.class_table.specs.declared.scripted.Test.{Test}
use Rattle.mutator_ops.specs.declared.mutant.Mutant.{Mutant}
use Rattle.record_rules.specs.declared.record.RunRecord.{RunRecord}
use Rattle.record_rules.specs.Records.{Asked}
use Rattle.record_rules.specs.Matching.{first_match}
use Rattle.suite_records.specs.Suites.{original_asked, mutant_asked}
use Rattle.job_rules.specs.Tried.{known}
use Rattle.suite_jobs.specs.Jobs.{Suite, Allowed, made_by, tried_on, has_reached, numbered, original_tried, covering, viable_file, mutant_tried, mutant_runs, job_runs}
use Rattle.suite_jobs.specs.Laws.{IsOwn, RunsAreOwn, forgotten, RunsStayTheSame}
use Rattle.suite_jobs.proofs.Lists.{all_each, all_unmapped, all_filtered, mapped_alike, filtered_alike, map_twice}

scratch_is : (old : List RunRecord) (k : ℕ) (x : Asked) → forgotten (tried_on old k x) ≡ tried_on [] k x
unfolding first_match
scratch_is old k x = refl

scratch_known : (k : ℕ) (x : Asked) → known (tried_on [] k x) ≡ made_by x
unfolding first_match
scratch_known k x = refl

module _ (a : Allowed) (s : Suite) (old : List RunRecord) where
  -- The same is known of a test's run on the program.
  abbrev IsSame : ℕ × Test → Type 0
  IsSame t = known (original_tried a s old t) ≡ known (original_tried a s [] t)

  abbrev IsAsMade : ℕ × Test → Type 0
  IsAsMade t = IsOwn (original_tried a s old t)

  same_of : (t : ℕ × Test) → IsAsMade t → IsSame t
  same_of t q = q.known_is ∙ sym (scratch_known t.0 (original_asked s.files s.program t.1 a.limits a.steps))

  module _ (same : AllByRecursion IsSame (numbered s)) where
    same_covering : (m : Mutant) → covering a s old m ≡ covering a s [] m
    same_covering m =
        filtered_alike IsSame (λ t. has_reached m (known (original_tried a s old t))) (λ t. has_reached m (known (original_tried a s [] t)))
        (λ t e. ap (has_reached m) e) (numbered s) same

    same_run : (made : Class × List ℕ) (t : ℕ × Test) → IsSame t → forgotten (mutant_tried a s old made t) ≡ mutant_tried a s [] made t
    same_run made t e =
        scratch_is old t.0 (mutant_asked s.files s.program made t.1 a.limits (limit_of (known (original_tried a s old t)).steps))
        ∙ ap (λ (r : RunRecord). tried_on [] t.0 (mutant_asked s.files s.program made t.1 a.limits (limit_of r.steps))) e

    same_runs : (m : Mutant) (o : Option (Class × List ℕ)) → map forgotten (option_map_or (λ made. map (mutant_tried a s old made) (covering a s old m)) o []) ≡ option_map_or (λ made. map (mutant_tried a s [] made) (covering a s [] m)) o []
    same_runs m None = refl
    same_runs m (Some made) =
        map_twice (mutant_tried a s old made) forgotten (covering a s old m)
        ∙ mapped_alike IsSame (λ t. forgotten (mutant_tried a s old made t)) (mutant_tried a s [] made) (same_run made) (covering a s old m) (all_filtered IsSame _ (numbered s) same)
        ∙ ap (map (mutant_tried a s [] made)) (same_covering m)

    same_mutants : (ms : List Mutant) → map (map forgotten) (map (mutant_runs a s old) ms) ≡ map (mutant_runs a s []) ms
    same_mutants [] = refl
    same_mutants (m ∷ ms) = λ i. same_runs m (viable_file s.program m) i ∷ same_mutants ms i

  same_originals : (ts : List (ℕ × Test)) → map forgotten (map (original_tried a s old) ts) ≡ map (original_tried a s []) ts
  same_originals [] = refl
  same_originals (t ∷ ts) =
      λ i. scratch_is old t.0 (original_asked s.files s.program t.1 a.limits a.steps) i ∷ same_originals ts i

pub stay_the_same : RunsAreOwn → RunsStayTheSame
unfolding job_runs
stay_the_same own a s old h true_old =
    let each = own a s old h true_old in
    let originals = recursion_from_All IsOwn (map (original_tried a s old) (numbered s)) each.originals in
    let same = all_each (IsAsMade a s old) (IsSame a s old) (same_of a s old) (numbered s) (all_unmapped IsOwn (original_tried a s old) (numbered s) originals) in
    λ i. record { originals = same_originals a s old (numbered s) i; mutants = same_mutants a s old same s.mutants i }
