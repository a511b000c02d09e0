-- The job of a shard is that of an accepted suite.
use Rattle.std.proofs.Common.{ℕ, suc, ◌+◌, ◌%◌, Bool, true, false, List, [], ◌∷◌, nat_eq}
use Rattle.std.specs.Prelude.{if◌then◌else◌}
use Rattle.std.specs.List.{AllByRecursion}
use Rattle.std.proofs.lemmas.List.Elements.{All-from_recursion, recursion_from_All}
use Rattle.job_rules.specs.Shards.{owned_from}
use Rattle.suite_jobs.specs.Jobs.{Suite, IsAccepted, IsOfFile}
use Rattle.job_answers.specs.Laws.{AnswersAreAsAsked, AnswersAreOfAllTests, CostsAreAsAsked}
use Rattle.job_answers.proofs.Answered.{answered}
use Rattle.shard_laws.specs.Shards.{shard_suite}
use Rattle.shard_laws.specs.Laws.{ShardsRunAsAsked}

owned_case : {X : Type 0} (P : X → Type 0) (b : Bool) (x : X) (xs : List X) → P x → AllByRecursion P xs → AllByRecursion P (if b then x ∷ xs else xs)
owned_case P true x xs p q = (p, q)
owned_case P false x xs p q = q

all_owned : {X : Type 0} (P : X → Type 0) (i n k : ℕ) (xs : List X) → AllByRecursion P xs → AllByRecursion P (owned_from i n k xs)
all_owned P i n k [] q = tt
all_owned P i n k (x ∷ xs) q = owned_case P (nat_eq (k % n + 1) i) x (owned_from i n (suc k) xs) q.0 (all_owned P i n (suc k) xs q.1)

pub own_accepted : (i n : ℕ) (s : Suite) → IsAccepted s → IsAccepted (shard_suite i n s)
own_accepted i n s h = record {
  suite = h.suite;
  names = h.names;
  tests = h.tests;
  mutants = All-from_recursion (IsOfFile s.program) (owned_from i n 0 s.mutants) (all_owned (IsOfFile s.program) i n 0 s.mutants (recursion_from_All (IsOfFile s.program) s.mutants h.mutants));
}

pub shards_run : AnswersAreOfAllTests → AnswersAreAsAsked → CostsAreAsAsked → ShardsRunAsAsked
shards_run tests asked costs a s i n old all x h true_old e =
    let own = shard_suite i n s in
    let accepted = own_accepted i n s h in
    let by_tests = tests a own old accepted true_old in
    let by_runs = answered a own old all x e in
    let as_asked = asked a own old accepted true_old by_runs.green in
    let as_cost = costs a own old all x accepted true_old e in
    record {
      verdicts = by_tests.verdicts all x e;
      records = as_asked.records all x e;
      reused_are = as_asked.reused all;
      least = as_cost.least;
      most = as_cost.most;
    }
