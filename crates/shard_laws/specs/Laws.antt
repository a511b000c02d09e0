-- What is said of shards and of their merge.
use Rattle.std.specs.Prelude.{◌≡◌, ◌<◌, ℕ, Bool, false, List, [], All, length, map, nat_lt, None, Ok}
use Rattle.class_records.specs.Profile.{profile}
use Rattle.record_rules.specs.declared.record.RunRecord.{RunRecord}
use Rattle.record_rules.specs.Histories.{reused}
use Rattle.record_rules.specs.Jobs.{cost}
use Rattle.reuse_laws.specs.Jobs.{AreTrue}
use Rattle.job_rules.specs.Tried.{least_cost}
use Rattle.suite_jobs.specs.Jobs.{Allowed, Suite, IsAccepted, says}
use Rattle.suite_jobs.specs.Laws.{steps_of}
use Rattle.job_answers.specs.Answers.{JobAnswer, cell_total, failed_tests, job_answer, job_cost}
use Rattle.job_answers.specs.Answers.{job_reused, job_scratch, most_cells, verdicts_anew}
use Rattle.shard_rules.specs.Files.{Shard}
use Rattle.shard_rules.specs.Laws.{IsWholeSet}
use Rattle.shard_rules.specs.Owners.{all_records}
use Rattle.shard_rules.specs.Sets.{set_fault}
use Rattle.shard_laws.specs.Shards.{ShardCost, ShardNeed, shard_records, shard_suite}
use Rattle.shard_laws.specs.Merges.{KeepsEnough, count_of, heads_of, kept_of}
use Rattle.shard_laws.specs.Merges.{lacking_mutant, lacking_original}
use Rattle.shard_laws.specs.Merges.{merge_answer, merge_runs, merged_by}

-- ---- a shard

-- The job of a shard that isn't refused answers, with true old records: its mutants' verdicts by
-- every test, and the records of its file. It costs the steps of the runs that the old records lack:
-- at least of those that it needs, at most of those of all tests that cover its mutants.
pub record IsShardRun (a : Allowed) (s : Suite) (i n : ℕ) (old : List RunRecord) (all : Bool)
    (x : JobAnswer) : Type 0 where
  pub verdicts : x.verdicts ≡ verdicts_anew all a (shard_suite i n s)
  pub records : x.records ≡ shard_records all a s i n
  pub reused_are : job_reused a (shard_suite i n s) old all ≡ reused old (ShardNeed all a s i n)
  pub least : (job_cost a (shard_suite i n s) old all).least ≡ cost old (ShardNeed all a s i n)
  pub most : (job_cost a (shard_suite i n s) old all).most ≡ ShardCost old a s i n

abbrev pub ShardsRunAsAsked : Type 0
ShardsRunAsAsked =
    (a : Allowed) (s : Suite) (i n : ℕ) (old : List RunRecord) (all : Bool) (x : JobAnswer) →
    IsAccepted s → AreTrue profile old → job_answer a (shard_suite i n s) old all ≡ Ok x →
    IsShardRun a s i n old all x

-- ---- a merge

-- A merge that is done answers what one call with all records of the files as old ones answers, and
-- that is the answer from scratch. All of the new records are reused, and no run is left to be made.
pub record IsAsOneCall (a : Allowed) (s : Suite) (ss : List Shard) (all : Bool) (x : JobAnswer)
    : Type 0 where
  pub answer : job_answer a s (all_records ss) all ≡ Ok x
  pub scratch : job_scratch all a s ≡ Ok x
  pub reused_are : job_reused a s (all_records ss) all ≡ length x.records
  pub cost : least_cost says steps_of all (merge_runs a s ss) ≡ 0

abbrev pub MergesAreAsOneCall : Type 0
MergesAreAsOneCall =
    (a : Allowed) (s : Suite) (ss : List Shard) (all : Bool) (x : JobAnswer) → IsAccepted s →
    AreTrue profile (all_records ss) → merge_answer a s ss all ≡ Ok x → IsAsOneCall a s ss all x

-- Whatever the records say, a merge has an answer where no run is lacking, each test is known to
-- pass, and there aren't too many cells.
pub record LacksNothing (a : Allowed) (s : Suite) (ss : List Shard) (all : Bool) : Type 0 where
  pub originals : lacking_original a s ss ≡ None
  pub green : failed_tests (merge_runs a s ss) ≡ []
  pub mutants : lacking_mutant (count_of ss) all (merge_runs a s ss).mutants ≡ None

abbrev pub MergesAreComplete : Type 0
MergesAreComplete =
    (a : Allowed) (s : Suite) (ss : List Shard) (all : Bool) → LacksNothing a s ss all →
    nat_lt most_cells (cell_total (merge_runs a s ss)) ≡ false →
    merge_answer a s ss all ≡ Ok (merged_by a s ss all)

-- Records that no run of the merge can match may be left out, file by file.
abbrev pub MergesGoByKept : Type 0
MergesGoByKept =
    (a : Allowed) (s : Suite) (ss : List Shard) (all : Bool) (keep : Shard → RunRecord → Bool) →
    KeepsEnough a s (count_of ss) keep →
    merge_answer a s (map (kept_of keep) ss) all ≡ merge_answer a s ss all

-- ---- the files of all shards

-- The records of the file are those that a call on the shard left, whatever true records it had.
pub record IsFileOf (a : Allowed) (s : Suite) (n : ℕ) (all : Bool) (f : Shard) : Type 0 where
  pub old : List RunRecord
  pub true_old : AreTrue profile old
  pub left : JobAnswer
  pub answer : job_answer a (shard_suite f.head.index n s) old all ≡ Ok left
  pub records : f.records ≡ left.records

-- These are files of all of so many shards, one of each, in any order.
pub record AreFilesOf (a : Allowed) (s : Suite) (n : ℕ) (all : Bool) (ss : List Shard) : Type 0
  where
    pub some : 0 < n
    pub heads : IsWholeSet n (heads_of ss)
    pub each : All (IsFileOf a s n all) ss

-- They are a set without fault, their records are true, and a merge of them lacks nothing.
pub record MayBeMerged (a : Allowed) (s : Suite) (all : Bool) (ss : List Shard) : Type 0 where
  pub set : set_fault (heads_of ss) ≡ None
  pub true_records : AreTrue profile (all_records ss)
  pub nothing : LacksNothing a s ss all

abbrev pub FilesOfAllMayBeMerged : Type 0
FilesOfAllMayBeMerged =
    (a : Allowed) (s : Suite) (n : ℕ) (all : Bool) (ss : List Shard) → IsAccepted s →
    AreFilesOf a s n all ss → MayBeMerged a s all ss
