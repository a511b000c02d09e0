-- A merge has an answer exactly where it lacks nothing, all tests pass and there are few cells.
use Rattle.std.proofs.Common.{◌≡◌, ◌∙◌, Bool, true, false, List, [], ◌∷◌, Option, Some, None, Result, Ok, Err, refl, sym, ap}
use Rattle.std.specs.Prelude.{if◌then◌else◌, nat_lt}
use Rattle.codec_rules.specs.Sequence.{◌>>=◌, or_fault}
use Rattle.codec_rules.proofs.Sequence.{bind_ok, or_fault_ok}
use Rattle.suite_jobs.specs.Jobs.{Allowed, Suite}
use Rattle.job_answers.specs.declared.refusal.FailedTest.{FailedTest}
use Rattle.job_answers.specs.declared.refusal.JobRefusal.{JobRefusal}
use Rattle.job_answers.specs.declared.refusal.JobRefusal.TheVariants.{TooManyCells}
use Rattle.job_answers.specs.Answers.{JobAnswer, cell_total, failed_tests, most_cells, unless_failed, unless_many}
use Rattle.shard_rules.specs.declared.lack.Lack.{Lack}
use Rattle.shard_rules.specs.Files.{Shard}
use Rattle.shard_laws.specs.declared.refusal.MergeRefusal.{MergeRefusal}
use Rattle.shard_laws.specs.declared.refusal.MergeRefusal.TheVariants.{Refused}
use Rattle.shard_laws.specs.Merges.{count_of, lacking_mutant, lacking_original, merge_answer, merge_runs, merged_by, unless_lacking}
use Rattle.shard_laws.specs.Laws.{LacksNothing, MergesAreComplete}

abbrev Plain : Type 0
Plain = Result JobAnswer JobRefusal

abbrev Merged : Type 0
Merged = Result JobAnswer MergeRefusal

pub merges_are_complete : MergesAreComplete
unfolding merge_answer
merges_are_complete a s ss all lacks few =
    let y = merged_by a s ss all in
    let cells = cell_total (merge_runs a s ss) in
    let mutant = lacking_mutant (count_of ss) all (merge_runs a s ss).mutants in
    let behind : Plain → Merged = λ r. or_fault Refused r >>= λ x. unless_lacking mutant (Ok x) in
    ap (λ (o : Option Lack). unless_lacking o (behind (unless_failed (failed_tests (merge_runs a s ss)) (unless_many cells (Ok y))))) lacks.originals
    ∙ ap (λ (fs : List FailedTest). behind (unless_failed fs (unless_many cells (Ok y)))) lacks.green
    ∙ ap (λ (b : Bool). behind (if b then Err TooManyCells else Ok y)) few
    ∙ ap (λ (o : Option Lack). unless_lacking o (Ok y)) lacks.mutants

-- ---- what an answer tells

pub record IsMerged (a : Allowed) (s : Suite) (ss : List Shard) (all : Bool) (x : JobAnswer) : Type 0 where
  pub nothing : LacksNothing a s ss all
  pub few : nat_lt most_cells (cell_total (merge_runs a s ss)) ≡ false
  pub is : x ≡ merged_by a s ss all

lack_case : (o : Option Lack) (next : Merged) (x : JobAnswer) → unless_lacking o next ≡ Ok x → (o ≡ None) × (next ≡ Ok x)
lack_case None next x e = (refl, e)
lack_case (Some lack) next x e = absurd cc

failed_case : (ts : List FailedTest) (next : Plain) (x : JobAnswer) → unless_failed ts next ≡ Ok x → (ts ≡ []) × (next ≡ Ok x)
failed_case [] next x e = (refl, e)
failed_case (t ∷ ts) next x e = absurd cc

abbrev as_answer : JobAnswer → Plain
as_answer x = Ok x

many_case : (b : Bool) (y x : JobAnswer) → (if b then Err TooManyCells else as_answer y) ≡ as_answer x → (b ≡ false) × (y ≡ x)
many_case true y x e = absurd cc
many_case false y x e = (refl, cc)

abbrev as_merged : JobAnswer → Merged
as_merged x = Ok x

same_answer : (y x : JobAnswer) → as_merged y ≡ as_merged x → y ≡ x
same_answer y x e = cc

pub merged_is : (a : Allowed) (s : Suite) (ss : List Shard) (all : Bool) (x : JobAnswer) → merge_answer a s ss all ≡ Ok x → IsMerged a s ss all x
unfolding merge_answer
merged_is a s ss all x e =
    let y = merged_by a s ss all in
    let cells = cell_total (merge_runs a s ss) in
    let failed = failed_tests (merge_runs a s ss) in
    let mutant = lacking_mutant (count_of ss) all (merge_runs a s ss).mutants in
    let plain : Plain = unless_failed failed (unless_many cells (Ok y)) in
    let first = lack_case (lacking_original a s ss) (or_fault Refused plain >>= λ x. unless_lacking mutant (Ok x)) x e in
    let second = bind_ok (or_fault Refused plain) (λ x. unless_lacking mutant (Ok x)) x first.1 in
    let last = lack_case mutant (Ok second.0) x second.2 in
    let was = or_fault_ok Refused plain second.0 second.1 in
    let third = failed_case failed (unless_many cells (Ok y)) second.0 was in
    let fourth = many_case (nat_lt most_cells cells) y second.0 third.1 in
    record {
      nothing = record { originals = first.0; green = third.0; mutants = last.0 };
      few = fourth.0;
      is = sym (fourth.1 ∙ same_answer second.0 x last.1);
    }
