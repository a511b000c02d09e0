-- The job of a shard of a suite: all tests, on the mutants that the shard owns (this project's own).
use Rattle.std.specs.Prelude.{ℕ, Bool, List}
use Rattle.record_rules.specs.declared.record.RunRecord.{RunRecord}
use Rattle.record_rules.specs.Histories.{new_records}
use Rattle.record_rules.specs.Jobs.{Job, Cost}
use Rattle.record_rules.specs.Records.{Asked}
use Rattle.suite_jobs.specs.Jobs.{Allowed, Suite, asked_job}
use Rattle.job_answers.specs.Answers.{need_of}
use Rattle.shard_rules.specs.Owners.{owned}

-- Shard i of n of a suite.
abbrev pub shard_suite : ℕ → ℕ → Suite → Suite
shard_suite i n s = record s { mutants = owned i n s.mutants }

abbrev pub shard_job : Allowed → Suite → ℕ → ℕ → Job
shard_job a s i n = asked_job a (shard_suite i n s)

-- The runs that it needs: all those on the program as it is, in test order, and then those that its
-- mutants need; with all killers asked for, those of all tests that cover them.
abbrev pub ShardNeed : Bool → Allowed → Suite → ℕ → ℕ → List Asked
ShardNeed all a s i n = need_of all (shard_job a s i n)

-- The steps of those runs on the program, and of those of all tests that cover its mutants, that no
-- old record matches.
abbrev pub ShardCost : List RunRecord → Allowed → Suite → ℕ → ℕ → ℕ
ShardCost old a s i n = Cost old (shard_job a s i n)

-- The records of its file.
abbrev pub shard_records : Bool → Allowed → Suite → ℕ → ℕ → List RunRecord
shard_records all a s i n = new_records (ShardNeed all a s i n)
