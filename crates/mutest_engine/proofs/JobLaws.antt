-- What the job of a suite gives, in the words of the definitions.
use Rattle.std.proofs.Common.{◌≡◌, ◌∙◌, ℕ, zero, suc, ◌+◌, ◌*◌, ◌<◌, ◌≤◌, Bool, true, false, eqb, List, [], ◌∷◌, ◌++◌, map, Result, Ok, Err, refl, sym, ap, subst, append_assoc, arith}
use Rattle.std.specs.Prelude.{◌≢◌, if◌then◌else◌, nat_lt}
use Rattle.std.proofs.Math.Nat.{suc-mul}
use Rattle.std.proofs.lemmas.Bool.{eqb-true}
use Rattle.std.proofs.lemmas.List.{append-nil}
use Rattle.class_link.specs.Info.{Info}
use Rattle.class_link.specs.declared.loaded.Loaded.{Loaded}
use Rattle.class_table.specs.declared.scripted.Test.{Test}
use Rattle.history_rules.specs.Laws.{AreWritable}
use Rattle.suite_runs.specs.Below.{JobAnswer, JobCost, answer_by, cell_total, failed_tests, job_answer, job_cost, job_reused, most_cells, unless_failed, unless_many}
use Rattle.suite_runs.specs.Below.{FailedTest}
use Rattle.suite_runs.specs.Below.{JobRefusal}
use Rattle.suite_runs.specs.Below.job_answers_declared_refusal_JobRefusal_TheVariants as job
use Rattle.job_rules.specs.Tried.{need}
use Rattle.record_rules.specs.declared.record.RunRecord.{RunRecord}
use Rattle.suite_runs.specs.Below.{records_in, Allowed, OldRecords, Suite, job_runs, says}
use Rattle.suite_runs.specs.Ending.{CannotBeKept, EndsAs, EndsOf, IsDone, MeterBy, MeterRose, allowed_in, suite_of}
use Rattle.suite_runs.specs.declared.fault.JobFault.{JobFault}
use Rattle.suite_runs.specs.declared.fault.JobFault.TheVariants as fault
use Rattle.suite_runs.specs.declared.job.JobDone.{JobDone}
use Rattle.suite_runs.specs.declared.job.SuiteJob.{SuiteJob}
use Rattle.mutator_ops.specs.declared.mutant.Verdict.{Verdict}
use Rattle.new_history.specs.Left.{Left}
use Rattle.mutest_engine.specs.Jobs.{RoseWithin, RoseInAll, Meters, failure_of, job_bounds, job_made, new_history, refusal_of, with_history, with_left}
use Rattle.mutest_engine.specs.Refusals.{IsOfRuns}
use Rattle.mutest_engine.specs.Steps.{and_then, Gives, Refuses}
use Rattle.mutest_engine.specs.declared.job.JobMade.{JobMade}
use Rattle.mutest_engine.specs.declared.refusal.Refusal.{Refusal}
use Rattle.mutest_engine.specs.declared.stop.Stop.{Stop}
use Rattle.mutest_engine.specs.declared.stop.Stop.TheVariants as stop

-- ---- lists

-- One more is seen, as a loop does.
pub mapped_on : {X Y : Type 0} (f : X → Y) (seen more : List Y) (x : X) (y : Y) (xs : List X) (total : List Y) → more ≡ seen ++ y ∷ [] → y ≡ f x → seen ++ map f (x ∷ xs) ≡ total → more ++ map f xs ≡ total
mapped_on f seen more x y xs total is same so_far =
    ap (λ l. l ++ map f xs) is ∙ append_assoc seen (y ∷ []) (map f xs) ∙ ap (λ z. seen ++ z ∷ map f xs) same ∙ so_far

-- All are seen.
pub mapped_end : {X Y : Type 0} (f : X → Y) (seen : List Y) (xs : List X) (total : List Y) → xs ≡ [] → seen ++ map f xs ≡ total → seen ≡ total
mapped_end f seen xs total none so_far = sym (append-nil seen) ∙ ap (λ l. seen ++ map f l) (sym none) ∙ so_far

-- ---- what a job gives

done_is : (x : JobAnswer) (reused : ℕ) (done : JobDone) → IsDone x reused done → with_history reused x ≡ with_left done.verdicts done.history
done_is x reused done is =
    let verdicts = sym is.verdicts in
    let records = sym is.records in
    let count = sym is.reused_is in
    (λ i. and_then (new_history (records i)) (λ history. Ok (record { verdicts = verdicts i; history = history; reused = count i })))

done_writable : (answer : Result JobAnswer JobRefusal) (reused : ℕ) (unkept : Type 0) (done : JobDone) → EndsAs answer reused unkept (Ok done) → AreWritable done.history.records
done_writable (Ok x) reused unkept done is = subst AreWritable (sym is.records) is.writable
done_writable (Err refusal) reused unkept done is = absurd is

done_gives : (ts : List Test) (answer : Result JobAnswer JobRefusal) (reused : ℕ) (unkept : Type 0) (done : JobDone) (result : Result JobMade Stop) → EndsAs answer reused unkept (Ok done) → Gives (with_left done.verdicts done.history) result → Gives (job_made ts reused answer) result
done_gives ts (Ok x) reused unkept done result is gives = subst (λ (stated : Result JobMade Refusal). Gives stated result) (sym (done_is x reused done is)) gives
done_gives ts (Err refusal) reused unkept done result is gives = absurd is

pub left_made : (verdicts : List Verdict) (left : Left) (history : List ℕ) (reused : ℕ) → new_history left.records ≡ Ok history → reused ≡ left.reused → with_left verdicts left ≡ Ok (record { verdicts = verdicts; history = history; reused = reused })
left_made verdicts left history reused is same =
    ap (λ x. and_then x (λ h. Ok (record { verdicts = verdicts; history = h; reused = left.reused }))) is
    ∙ ap (λ n. Ok (record { verdicts = verdicts; history = history; reused = n })) (sym same)

pub left_refused : (verdicts : List Verdict) (left : Left) (r : Refusal) → new_history left.records ≡ Err r → with_left verdicts left ≡ Err r
left_refused verdicts left r is = ap (λ x. and_then x (λ h. Ok (record { verdicts = verdicts; history = h; reused = left.reused }))) is

-- ---- how it stops

-- What is said of the stop by the fault.
pub record IsStopOf (ts : List Test) (f : JobFault) (s : Stop) : Type 0 where
  pub refused : (refusal : JobRefusal) → f ≡ fault.Refused refusal → Refuses (λ r. r ≡ refusal_of ts refusal) s
  pub lost : ((refusal : JobRefusal) → f ≡ fault.Refused refusal → ⊥) → s ≡ stop.WantOfMemory

pub no_refusal : (P : Refusal → Type 0) (s : Stop) → s ≡ stop.WantOfMemory → Refuses P s
no_refusal P s want = λ r is. let e : stop.WantOfMemory ≡ stop.Refused r = sym want ∙ is in absurd cc

-- A job's refusal is told so.
pub refused_by : (ts : List Test) (q : JobRefusal) (told : Refusal) → told ≡ refusal_of ts q → Refuses (λ r. r ≡ refusal_of ts q) (stop.Refused told)
refused_by ts q told is = λ r e. let same : told ≡ r = cc in sym same ∙ is

stop_gives : (ts : List Test) (answer : Result JobAnswer JobRefusal) (reused : ℕ) (unkept : Type 0) (f : JobFault) (s : Stop) → EndsAs answer reused unkept (Err f) → IsStopOf ts f s → Refuses (λ r. job_made ts reused answer ≡ Err r) s
stop_gives ts (Ok x) reused unkept (fault.Refused refusal) s ends is = absurd ends
stop_gives ts (Err q) reused unkept (fault.Refused refusal) s ends is = λ r e. ap (λ (z : JobRefusal). job_made ts reused (Err z)) (sym ends) ∙ ap (λ z. Err z) (sym (is.refused refusal refl r e))
stop_gives ts answer reused unkept fault.Unwritable s ends is = no_refusal (λ r. job_made ts reused answer ≡ Err r) s (is.lost (λ q e. absurd cc))
stop_gives ts answer reused unkept fault.Memory s ends is = no_refusal (λ r. job_made ts reused answer ≡ Err r) s (is.lost (λ q e. absurd cc))

-- ---- with which refusals

-- One that is not green names tests.
abbrev NamesTests : JobRefusal → Type 0
NamesTests (job.NotGreen failed) = failed ≢ []
NamesTests job.TooManyCells = Unit {0}

many_names : {X : Type 0} (b : Bool) (x : X) (q : JobRefusal) → (if b then Err job.TooManyCells else Ok x) ≡ Err q → NamesTests q
many_names true x q h = let e : job.TooManyCells ≡ q = cc in subst NamesTests e tt
many_names false x q h = absurd cc

failed_names : {X : Type 0} (failed : List FailedTest) (next : Result X JobRefusal) (q : JobRefusal) → (next ≡ Err q → NamesTests q) → unless_failed failed next ≡ Err q → NamesTests q
failed_names [] next q other h = other h
failed_names (t ∷ ts) next q other h = let e : job.NotGreen (t ∷ ts) ≡ q = cc in subst NamesTests e (λ none. absurd cc)

answer_names : (a : Allowed) (s : Suite) (old : List RunRecord) (all : Bool) (q : JobRefusal) → job_answer a s old all ≡ Err q → NamesTests q
unfolding job_answer
answer_names a s old all q h =
    failed_names (failed_tests (job_runs a s old)) (unless_many (cell_total (job_runs a s old)) (Ok (answer_by a s old all))) q
    (many_names (nat_lt most_cells (cell_total (job_runs a s old))) (answer_by a s old all) q) h

some_told : (ts : List Test) (failed : List FailedTest) → failed ≢ [] → map (failure_of ts) failed ≢ []
some_told ts [] some = λ none. some refl
some_told ts (t ∷ failed) some = λ none. absurd cc

of_named : (ts : List Test) (q : JobRefusal) → NamesTests q → IsOfRuns (refusal_of ts q)
of_named ts (job.NotGreen failed) names = (some_told ts failed names, λ early. early)
of_named ts job.TooManyCells names = (refl, λ early. early)

stop_refuses : (ts : List Test) (answer : Result JobAnswer JobRefusal) (reused : ℕ) (unkept : Type 0) (f : JobFault) (s : Stop) → ((q : JobRefusal) → answer ≡ Err q → NamesTests q) → EndsAs answer reused unkept (Err f) → IsStopOf ts f s → Refuses IsOfRuns s
stop_refuses ts (Ok x) reused unkept (fault.Refused refusal) s names ends is = absurd ends
stop_refuses ts (Err q) reused unkept (fault.Refused refusal) s names ends is = λ r e.
    subst IsOfRuns (sym (is.refused refusal refl r e)) (of_named ts refusal (subst NamesTests (sym ends) (names q refl)))
stop_refuses ts answer reused unkept fault.Unwritable s names ends is = no_refusal IsOfRuns s (is.lost (λ q e. absurd cc))
stop_refuses ts answer reused unkept fault.Memory s names ends is = no_refusal IsOfRuns s (is.lost (λ q e. absurd cc))

-- ---- what it costs

one_worker : (b : Bool) (workers before after : ℕ) (c : JobCost) → eqb workers 1 ≡ b → MeterRose c workers before after → after ≤ before + (if b then c.least else c.most)
one_worker true workers before after c e rose = let one = rose.one (eqb-true workers 1 e) in omega (arith, one)
one_worker false workers before after c e rose = rose.most

rose_within : (workers before after : ℕ) (c : JobCost) → MeterRose c workers before after → RoseWithin (job_bounds workers c) before after
rose_within workers before after c rose = record {
  least = rose.least;
  most = one_worker (eqb workers 1) workers before after c refl rose;
}

times : (workers n : ℕ) → 0 < workers → n ≤ workers * n
times zero n some = absurd (omega (arith, some))
times (suc k) n some = omega (arith, suc-mul k n)

later_by : (least before after : ℕ) → before + least ≤ after → before ≤ after
later_by least before after le = omega (arith, le)

in_all_by : (most all before after : ℕ) → most ≤ all → after ≤ before + most → after ≤ before + all
in_all_by most all before after few le = omega (arith, few, le)

rose_in_all : (workers before after : ℕ) (c : JobCost) → 0 < workers → MeterRose c workers before after → RoseInAll (job_bounds workers c) before after
rose_in_all workers before after c some rose = record {
  least = later_by c.least before after rose.least;
  most = in_all_by c.most (workers * c.most) before after (times workers c.most some) rose.most;
}

ended_by : {X : Type 0} (workers before after : ℕ) (c : JobCost) (result : Result X Stop) → 0 < workers → MeterRose c workers before after → Meters (job_bounds workers c) before after result
ended_by workers before after c (Ok x) some rose = record {
  in_all = rose_in_all workers before after c some rose;
  ended = rose_within workers before after c rose;
}
ended_by workers before after c (Err s) some rose = record {
  in_all = rose_in_all workers before after c some rose;
  ended = λ r is. rose_within workers before after c rose;
}

done_meters : {X : Type 0} (workers before after : ℕ) (c : JobCost) (done : JobDone) (result : Result X Stop) → 0 < workers → MeterBy c workers before after (Ok done) → Meters (job_bounds workers c) before after result
done_meters workers before after c done result some rose = ended_by workers before after c result some rose

stop_meters : {X : Type 0} (ts : List Test) (workers before after : ℕ) (c : JobCost) (f : JobFault) (s : Stop) → 0 < workers → MeterBy c workers before after (Err f) → IsStopOf ts f s → Meters {X = X} (job_bounds workers c) before after (Err s)
stop_meters ts workers before after c (fault.Refused refusal) s some rose is = ended_by workers before after c (Err s) some rose
stop_meters ts workers before after c fault.Unwritable s some rose is = ended_by workers before after c (Err s) some rose
stop_meters ts workers before after c fault.Memory s some rose is = record {
  in_all = record { least = rose.0; most = rose.1 };
  ended = no_refusal (λ r. RoseWithin (job_bounds workers c) before after) s (is.lost (λ q e. absurd cc));
}

-- ---- of a suite

module _ (p : List Info) (j : SuiteJob) (old : OldRecords) (files : List Loaded) where
  abbrev answer : Result JobAnswer JobRefusal
  answer = job_answer (allowed_in j) (suite_of files p j) (records_in old) j.all

  abbrev reused : ℕ
  reused = job_reused (allowed_in j) (suite_of files p j) (records_in old) j.all

  abbrev unkept : Type 0
  unkept = CannotBeKept old (need says j.all (job_runs (allowed_in j) (suite_of files p j) (records_in old)))

  abbrev cost : JobCost
  cost = job_cost (allowed_in j) (suite_of files p j) (records_in old) j.all

  pub job_writable : (done : JobDone) → EndsOf (allowed_in j) (suite_of files p j) old j.all (Ok done) → AreWritable done.history.records
  job_writable done ends = done_writable answer reused unkept done ends

  pub job_gives : (done : JobDone) (result : Result JobMade Stop) → EndsOf (allowed_in j) (suite_of files p j) old j.all (Ok done) → Gives (with_left done.verdicts done.history) result
      → Gives (job_made j.tests.now reused answer) result
  job_gives done result ends gives = done_gives j.tests.now answer reused unkept done result ends gives

  pub job_stops : (f : JobFault) (s : Stop) → EndsOf (allowed_in j) (suite_of files p j) old j.all (Err f) → IsStopOf j.tests.now f s → Refuses (λ r. job_made j.tests.now reused answer ≡ Err r) s
  job_stops f s ends is = stop_gives j.tests.now answer reused unkept f s ends is

  pub job_refuses : (f : JobFault) (s : Stop) → EndsOf (allowed_in j) (suite_of files p j) old j.all (Err f) → IsStopOf j.tests.now f s → Refuses IsOfRuns s
  job_refuses f s ends is = stop_refuses j.tests.now answer reused unkept f s (answer_names (allowed_in j) (suite_of files p j) (records_in old) j.all) ends is

  pub job_meters : {X : Type 0} (before after : ℕ) (done : JobDone) (result : Result X Stop) → 0 < j.workers → MeterBy cost j.workers before after (Ok done) → Meters (job_bounds j.workers cost) before after result
  job_meters before after done result some rose = done_meters j.workers before after cost done result some rose

  pub job_lost : {X : Type 0} (before after : ℕ) (f : JobFault) (s : Stop) → 0 < j.workers → MeterBy cost j.workers before after (Err f) → IsStopOf j.tests.now f s → Meters {X = X} (job_bounds j.workers cost) before after (Err s)
  job_lost before after f s some rose is = stop_meters j.tests.now j.workers before after cost f s some rose is
