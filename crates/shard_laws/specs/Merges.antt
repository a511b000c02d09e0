-- What a merge of shard files answers, by the records of the files (this project's own).
use Rattle.std.specs.Prelude.{◌≡◌, ℕ, Bool, true, List, [], Option, Some, None, Result, Ok, Err, find}
use Rattle.std.specs.Prelude.{map, filter, is_none, slice_get}
use Rattle.std.specs.Prelude.{option_map}
use Rattle.std.specs.List.{enumerate_from, flat_map}
use Rattle.std.specs.Option.{option_map_or}
use Rattle.codec_rules.specs.Sequence.{◌>>=◌, or_fault}
use Rattle.class_model.specs.declared.class.Class.{Class}
use Rattle.machine_rules.specs.Runs.{limit_of}
use Rattle.class_table.specs.declared.scripted.Test.{Test}
use Rattle.mutator_ops.specs.declared.mutant.Mutant.{Mutant}
use Rattle.mutator_ops.specs.declared.mutant.Verdict.{Verdict}
use Rattle.record_rules.specs.declared.record.RunRecord.{RunRecord}
use Rattle.record_rules.specs.Histories.{same_record}
use Rattle.record_rules.specs.Matching.{first_match, matches}
use Rattle.job_rules.specs.Tried.{JobRuns, Tried, known, need, needed, records_once}
use Rattle.suite_jobs.specs.Below.{mutant_asked, not_viable, original_asked}
use Rattle.suite_jobs.specs.Jobs.{Allowed, Suite, covering, numbered, original_tried, says, tried_on}
use Rattle.suite_jobs.specs.Jobs.{viable_file}
use Rattle.job_answers.specs.Answers.{JobAnswer, cell_total, failed_tests, unless_failed}
use Rattle.job_answers.specs.Answers.{unless_many, verdict_of_runs}
use Rattle.shard_rules.specs.declared.head.Head.{Head}
use Rattle.shard_rules.specs.declared.lack.Lack.{Lack}
use Rattle.shard_rules.specs.Files.{Shard}
use Rattle.shard_rules.specs.Owners.{all_records, owner_of, records_of}
use Rattle.shard_rules.specs.Sets.{shard_count}
use Rattle.shard_laws.specs.declared.refusal.MergeRefusal.{MergeRefusal}
use Rattle.shard_laws.specs.declared.refusal.MergeRefusal.TheVariants.{Lacks, Refused}

-- ---- runs

-- What is known of a test's run on the program is the first match among all records, in the order of
-- the files. By it go the tests that cover a mutant, and how many steps their runs on it may take;
-- of these runs the first match counts among the records of the shard that owns the mutant, which
-- are `own`.
module _ (a : Allowed) (s : Suite) (every own : List RunRecord) where
  abbrev pub merged_tried : Class × List ℕ → ℕ × Test → Tried RunRecord
  merged_tried made t =
      tried_on own t.0
      (mutant_asked s.files s.program made t.1 a.limits
      (limit_of (known (original_tried a s every t)).steps))

  abbrev pub merged_on : Mutant → List (Tried RunRecord)
  merged_on m =
      option_map_or (λ made. map (merged_tried made) (covering a s every m))
      (viable_file s.program m) []

-- The heads of shards, and how many there are.
abbrev pub heads_of : List Shard → List Head
heads_of ss = map (λ s. s.head) ss

abbrev pub count_of : List Shard → ℕ
count_of ss = shard_count (heads_of ss)

-- The mutants with their places.
abbrev pub placed_mutants : Suite → List (ℕ × Mutant)
placed_mutants s = enumerate_from 0 s.mutants

module _ (a : Allowed) (s : Suite) (ss : List Shard) where
  abbrev pub merged_at : ℕ × Mutant → List (Tried RunRecord)
  merged_at p =
      merged_on a s (all_records ss) (records_of ss (owner_of p.0 (count_of ss))) p.1

  unfoldable pub merge_runs : JobRuns RunRecord
  merge_runs = record {
    originals = map (original_tried a s (all_records ss)) (numbered s);
    mutants = map merged_at (placed_mutants s);
  }

-- ---- what is lacking

-- The first run on the program that no record of the first shard matches, in test order.
abbrev pub is_lacking : Allowed → Suite → List RunRecord → ℕ × Test → Bool
is_lacking a s own t =
    is_none (first_match own (original_asked s.files s.program t.1 a.limits a.steps))

abbrev pub original_lack : ℕ × Test → Lack
original_lack t = record { index = 1; test = t.0; mutant = None }

abbrev pub lacking_original : Allowed → Suite → List Shard → Option Lack
lacking_original a s ss =
    option_map original_lack
    (find (is_lacking a s (records_of ss 1)) (numbered s))

-- The runs that mutants need, each with the place of its mutant.
abbrev pub wanted_of : Bool → ℕ × List (Tried RunRecord) → List (ℕ × Tried RunRecord)
wanted_of all p = map (λ t. (p.0, t)) (needed says all p.1)

abbrev pub wanted : Bool → List (List (Tried RunRecord)) → List (ℕ × Tried RunRecord)
wanted all mutants = flat_map (wanted_of all) (enumerate_from 0 mutants)

-- The first of them that no record of its mutant's owner matches: by mutant, and then by test.
abbrev pub lack_of : ℕ → ℕ × Tried RunRecord → Lack
lack_of n w = record { index = owner_of w.0 n; test = w.1.test; mutant = Some w.0 }

abbrev pub lacking_mutant : ℕ → Bool → List (List (Tried RunRecord)) → Option Lack
lacking_mutant n all mutants =
    option_map (lack_of n) (find (λ w. is_none w.1.found) (wanted all mutants))

-- ---- the answer

abbrev pub merged_verdict : Allowed → Suite → List Shard → Bool → ℕ × Mutant → Verdict
merged_verdict a s ss all p =
    option_map_or (λ made. verdict_of_runs all (merged_at a s ss p)) (viable_file s.program p.1)
    not_viable

abbrev pub merged_by : Allowed → Suite → List Shard → Bool → JobAnswer
merged_by a s ss all = record {
  verdicts = map (merged_verdict a s ss all) (placed_mutants s);
  records = records_once same_record (need says all (merge_runs a s ss));
}

-- A lacking run refuses it; else this.
abbrev pub unless_lacking :
    {X : Type 0} → Option Lack → Result X MergeRefusal → Result X MergeRefusal
unless_lacking None next = next
unless_lacking (Some lack) next = Err (Lacks lack)

-- In this order: lacking runs on the program, tests that don't pass, the number of cells, lacking
-- runs on mutants.
unfoldable pub merge_answer : Allowed → Suite → List Shard → Bool → Result JobAnswer MergeRefusal
merge_answer a s ss all =
    unless_lacking (lacking_original a s ss)
    (or_fault Refused
    (unless_failed (failed_tests (merge_runs a s ss))
    (unless_many (cell_total (merge_runs a s ss)) (Ok (merged_by a s ss all))))
    >>= λ x. unless_lacking (lacking_mutant (count_of ss) all (merge_runs a s ss).mutants) (Ok x))

-- ---- what may be left out

-- Of each file only some records are kept.
abbrev pub kept_of : (Shard → RunRecord → Bool) → Shard → Shard
kept_of keep f = record { head = f.head; records = filter (keep f) f.records }

-- Kept are the records that match a run on the program, and of each file those that match, under some
-- limit, a run on a viable mutant that its shard owns.
pub record KeepsEnough (a : Allowed) (s : Suite) (n : ℕ) (keep : Shard → RunRecord → Bool) : Type 0
  where
    pub originals :
        (f : Shard) (r : RunRecord) (t : Test) →
        matches r (original_asked s.files s.program t a.limits a.steps) ≡ true → keep f r ≡ true
    pub mutants :
        (f : Shard) (k : ℕ) (m : Mutant) → slice_get s.mutants k ≡ Some m →
        f.head.index ≡ owner_of k n → (made : Class × List ℕ) →
        viable_file s.program m ≡ Some made → (r : RunRecord) (t : Test) (limit : ℕ) →
        matches r (mutant_asked s.files s.program made t a.limits limit) ≡ true → keep f r ≡ true
