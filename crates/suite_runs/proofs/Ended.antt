-- How a job ends, by what its cells said.
use Rattle.std.proofs.Common.{◌≡◌, ◌∙◌, ◌⊎◌, inl, inr, ℕ, zero, suc, ◌+◌, ◌*◌, ◌<◌, ◌≤◌, ◌^◌, Bool, true, false, List, [], ◌∷◌, ◌++◌, length, map, get_or, Option, Some, None, refl, sym, ap, ap₂, subst, arith}
use Rattle.std.specs.Prelude.{All, Result, Ok, Err, filter, is_some, if◌then◌else◌, max, slice_index_or, sum_by}
use Rattle.std.specs.List.{AllByRecursion}
use Rattle.std.specs.Option.{unwrap_or}
use Rattle.std.proofs.Math.Nat.{le-mul_of_pos_right, mul-add, mul_comm}
use Rattle.std.proofs.lemmas.List.{get_or-map, length-map, map-append}
use Rattle.std.proofs.lemmas.List.Elements.{All-from_recursion, recursion_from_All}
use Rattle.std.proofs.lemmas.List.Sums.{sum_by-cons}
use Rattle.class_link.specs.Info.{Info}
use Rattle.class_link.specs.declared.loaded.Loaded.{Loaded}
use Rattle.mutator_ops.specs.declared.mutant.Mutant.{Mutant}
use Rattle.record_rules.specs.declared.record.RunRecord.{RunRecord}
use Rattle.record_rules.specs.Histories.{Kept, once_behind, same_record}
use Rattle.history_rules.specs.Fitting.{FitsFields}
use Rattle.history_rules.specs.Laws.{IsFormed}
use Rattle.history_file.specs.Rows.{Numbered}
use Rattle.new_history.specs.Left.{Left}
use Rattle.job_rules.specs.Tried.{JobRuns, Tried, known, knowns, cost_of, cost_of_all, detections, firsts_after, is_among, most_cost, need, need_cost, needed_of_all, records_once, reused_among}
use Rattle.suite_workers.specs.Below.{Allowed, Suite, job_runs, mutant_runs, says, viable_file, steps_of}
use Rattle.suite_workers.specs.Jobs.{covering_numbers}
use Rattle.suite_workers.specs.Old.{history_in, records_in}
use Rattle.suite_workers.specs.Said.{CostsOf, IsSaidOf, is_found, known_record}
use Rattle.suite_workers.specs.Said as said
use Rattle.suite_workers.specs.declared.old_records.OldRecords.{OldRecords}
use Rattle.suite_workers.specs.declared.said.CellsSaid.{CellsSaid}
use Rattle.suite_workers.specs.declared.said.KnownRun.{KnownRun}
use Rattle.job_answers.specs.declared.refusal.JobRefusal.{JobRefusal}
use Rattle.job_answers.specs.Answers.{JobAnswer, JobCost, answer_by, cost_by, exactly, job_answer, job_cost, job_reused, verdict_in}
use Rattle.job_answers.specs.Laws.{AnswersCanBeWritten}
use Rattle.job_answers.proofs.TriedOnce.{kept, records_are, reused_are}
use Rattle.suite_runs.specs.declared.fault.JobFault.{JobFault}
use Rattle.suite_runs.specs.declared.fault.JobFault.TheVariants as fault
use Rattle.suite_runs.specs.declared.job.JobDone.{JobDone}
use Rattle.suite_runs.specs.declared.job.SuiteJob.{SuiteJob}
use Rattle.suite_runs.specs.declared.prepared.Prepared.{Prepared}
use Rattle.suite_runs.specs.Ending.{AreTooMany, CannotBeKept, EndsAs, EndsOf, HasUnfit, IsDone, IsSuiteOf, MeterBy, MeterRose, allowed_in, names_added, numbered_in, suite_of}
use Rattle.suite_runs.specs.Judging.{verdicts_from}
use Rattle.suite_runs.specs.Keeping.{AreKept, CannotKeep, FinishEnds, IsFinished, KeepTooMany, all_known, kept_as, names_kept}
use Rattle.suite_runs.specs.Preparing.{AreGreen, IsReadied, RisesBy}
use Rattle.suite_runs.proofs.Suited.{answers, covering_is, runs_alike, viable_is}
use Rattle.suite_runs.proofs.VerdictsAlike.{verdicts_alike}

abbrev Runs : Type 0
Runs = List (Tried RunRecord)

-- ---- what is kept

kepts_alike : (ks : List KnownRun) (ts : Runs) → map known_record ks ≡ knowns ts → map is_found ks ≡ map (λ (t : Tried RunRecord). is_some t.found) ts → map kept_as ks ≡ map kept ts
kepts_alike [] [] e f = refl
kepts_alike [] (t ∷ ts) e f = absurd cc
kepts_alike (k ∷ ks) [] e f = absurd cc
kepts_alike (k ∷ ks) (t ∷ ts) e f =
    let entry : known_record k ≡ known t = cc in
    let found : is_found k ≡ is_some t.found = cc in
    let entries : map known_record ks ≡ knowns ts = cc in
    let founds : map is_found ks ≡ map (λ (u : Tried RunRecord). is_some u.found) ts = cc in
    let one : kept_as k ≡ kept t = λ i. record { entry = entry i; is_old = found i } in
    ap₂ (λ (x : Kept) (xs : List Kept). x ∷ xs) one (kepts_alike ks ts entries founds)

names_case : (o : Option RunRecord) (made : RunRecord) → (if is_some o then 0 else length (unwrap_or o made).consulted + 3) ≡ (if is_some o then 0 else length made.consulted + 3)
names_case None made = refl
names_case (Some r) made = refl

names_alike : (ts : Runs) → sum_by names_kept (map kept ts) ≡ sum_by names_added ts
names_alike [] = refl
names_alike (t ∷ ts) =
    sum_by-cons names_kept (kept t) (map kept ts)
    ∙ ap₂ (λ (m n : ℕ). m + n) (names_case t.found t.made) (names_alike ts)
    ∙ sym (sum_by-cons names_added t ts)

-- the records that are needed are among these
kept_first : (P : RunRecord → Type 0) (b : Bool) (t : Tried RunRecord) (rest others : Runs) → P (known t) → AllByRecursion P (knowns rest) → AllByRecursion P (knowns others) → AllByRecursion P (knowns (if b then rest else t ∷ others))
kept_first P true t rest others h q r = q
kept_first P false t rest others h q r = (h, r)

all_firsts : (P : RunRecord → Type 0) (seen ts : Runs) → AllByRecursion P (knowns ts) → AllByRecursion P (knowns (firsts_after same_record seen ts))
all_firsts P seen [] q = tt
all_firsts P seen (t ∷ ts) q =
    kept_first P (is_among same_record seen t) t (firsts_after same_record seen ts) (firsts_after same_record (t ∷ seen) ts) q.0 (all_firsts P seen ts q.1)
    (all_firsts P (t ∷ seen) ts q.1)

module _ (old : OldRecords) (ks : List KnownRun) (ts : Runs) (entries : map known_record ks ≡ knowns ts) (found : map is_found ks ≡ map (λ (t : Tried RunRecord). is_some t.found) ts) where
  same : map kept_as ks ≡ map kept ts
  same = kepts_alike ks ts entries found

  too_many : (h : Numbered) → KeepTooMany h (map kept_as ks) → AreTooMany h ts
  too_many h many =
      subst (λ (n : ℕ). 2 ^ 32 ≤ max (length ts) (max (length h.texts) (length h.classes) + n)) (names_alike ts)
      (subst (λ (n : ℕ). 2 ^ 32 ≤ max n (max (length h.texts) (length h.classes) + sum_by names_kept (map kept ts))) (length-map ts kept)
      (subst (λ (xs : List Kept). 2 ^ 32 ≤ max (length xs) (max (length h.texts) (length h.classes) + sum_by names_kept xs)) same many))

  pub unkept : CannotKeep old ks → CannotBeKept old ts
  unkept (inl unfit) = inl (subst HasUnfit entries unfit)
  unkept (inr many) = inr (too_many (numbered_in old) many)

  pub records_left : (new : Left) → AreKept old ks new → new.records ≡ records_once same_record ts
  records_left new h = h.records.records ∙ ap (λ (xs : List Kept). map (λ k. k.entry) (once_behind [] xs)) same ∙ records_are ts

  pub reused_left : (new : Left) → AreKept old ks new → new.reused ≡ reused_among same_record ts
  reused_left new h = h.records.reused ∙ ap (λ (xs : List Kept). length (filter (λ k. k.is_old) (once_behind [] xs))) same ∙ reused_are ts

  pub fits_left : (new : Left) → AreKept old ks new → All IsFormed (records_in old) → All FitsFields (records_once same_record ts)
  fits_left new h formed =
      All-from_recursion FitsFields (records_once same_record ts)
      (all_firsts FitsFields [] ts (recursion_from_All FitsFields (knowns ts) (subst (λ (rs : List RunRecord). All FitsFields rs) entries (h.fit formed))))

-- ---- the answer

module _ (law : AnswersCanBeWritten) (files : List Loaded) (p : List Info) (j : SuiteJob) (old : OldRecords) (is : IsSuiteOf files p j) (formed : All IsFormed (records_in old)) (x : Prepared) (r : IsReadied p j old x) (cells : CellsSaid) where
  abbrev a : Allowed
  a = allowed_in j

  abbrev s : Suite
  s = suite_of files p j

  abbrev rs : List RunRecord
  rs = records_in old

  abbrev Says : Type 0
  Says = IsSaidOf j.all (history_in old) (job_runs a s rs).mutants cells

  abbrev ts : Runs
  ts = need says j.all (job_runs a s rs)

  entries_are : Says → map known_record (all_known x cells) ≡ knowns ts
  entries_are h =
      map-append known_record x.runs cells.records
      ∙ ap₂ (λ (us vs : List RunRecord). us ++ vs) (r.runs.are.known.entries ∙ ap knowns (runs_alike files p j rs is)) h.records
      ∙ sym (map-append known (job_runs a s rs).originals (needed_of_all says j.all (job_runs a s rs).mutants))

  found_are : Says → map is_found (all_known x cells) ≡ map (λ (t : Tried RunRecord). is_some t.found) ts
  found_are h =
      map-append is_found x.runs cells.records
      ∙ ap₂ (λ (us vs : List Bool). us ++ vs) (r.runs.are.known.found ∙ ap (map (λ (t : Tried RunRecord). is_some t.found)) (runs_alike files p j rs is)) h.found
      ∙ sym (map-append (λ (t : Tried RunRecord). is_some t.found) (job_runs a s rs).originals (needed_of_all says j.all (job_runs a s rs).mutants))

  at_mapped : {B : Type 0} (f : Mutant → B) (ys : List B) (i : ℕ) (m : Mutant) (d : B) → ys ≡ map f j.mutants.now → i < length j.mutants.now → slice_index_or ys (0 + i) d ≡ f (get_or j.mutants.now i m)
  at_mapped {B = B} f ys i m d e lt =
      let none : 0 + i ≡ i = omega arith in
      ap (λ (k : ℕ). slice_index_or ys k d) none ∙ ap (λ (zs : List B). slice_index_or zs i d) e ∙ get_or-map f j.mutants.now i m d lt

  verdicts_are : Says → verdicts_from x.viable x.covering 0 cells.detections ≡ map (verdict_in a s rs j.all) s.mutants
  unfolding job_runs
  verdicts_are h =
      ap (verdicts_from x.viable x.covering 0) h.detections_are
      ∙ verdicts_alike a s rs j.all x.viable x.covering 0 j.mutants.now (λ i m lt. (
        at_mapped (λ m. is_some (viable_file p m)) x.viable i m false (viable_is files p j old is x r) lt,
        at_mapped (covering_numbers a s rs) x.covering i m [] (covering_is files p j old is x r) lt,
      ))

  abbrev answer : JobAnswer
  answer = answer_by a s rs j.all

  is_done : Says → (done : JobDone) → IsFinished old x cells done → IsDone answer (job_reused a s rs j.all) done
  is_done h done f =
      let entries = entries_are h in
      let found = found_are h in
      record {
        verdicts = f.verdicts ∙ verdicts_are h;
        records = records_left old (all_known x cells) ts entries found done.history f.records;
        reused_is = reused_left old (all_known x cells) ts entries found done.history f.records;
        writable = law a s rs j.all answer is.accepted formed (answers files p j old is x r j.all) (fits_left old (all_known x cells) ts entries found done.history f.records formed);
      }

  ends_case : Says → (result : Result JobDone JobFault) → FinishEnds old x cells result → EndsAs (Ok answer) (job_reused a s rs j.all) (CannotBeKept old ts) result
  ends_case h (Ok done) f = is_done h done f
  ends_case h (Err (fault.Refused refusal)) f = f
  ends_case h (Err fault.Unwritable) f = unkept old (all_known x cells) ts (entries_are h) (found_are h) f
  ends_case h (Err fault.Memory) f = tt

  pub finished_ends : Says → (result : Result JobDone JobFault) → FinishEnds old x cells result → EndsOf a s old j.all result
  finished_ends h result f = subst (λ (o : Result JobAnswer JobRefusal). EndsAs o (job_reused a s rs j.all) (CannotBeKept old ts) result) (sym (answers files p j old is x r j.all)) (ends_case h result f)

-- ---- how a job ends early

memory_case : (o : Result JobAnswer JobRefusal) (reused : ℕ) (unkept : Type 0) → EndsAs o reused unkept (Err fault.Memory)
memory_case (Ok x) reused unkept = tt
memory_case (Err refusal) reused unkept = tt

pub memory_ends : (a : Allowed) (s : Suite) (old : OldRecords) (all : Bool) → EndsOf a s old all (Err fault.Memory)
memory_ends a s old all = memory_case (job_answer a s (records_in old) all) (job_reused a s (records_in old) all) (CannotBeKept old (need says all (job_runs a s (records_in old))))

pub refused_ends : (a : Allowed) (s : Suite) (old : OldRecords) (all : Bool) (refusal : JobRefusal) → job_answer a s (records_in old) all ≡ Err refusal → EndsOf a s old all (Err (fault.Refused refusal))
refused_ends a s old all refusal e = subst (λ (o : Result JobAnswer JobRefusal). EndsAs o (job_reused a s (records_in old) all) (CannotBeKept old (need says all (job_runs a s (records_in old)))) (Err (fault.Refused refusal))) (sym e) refl

-- ---- the meter

-- one and more of it
once_or_more : (w n : ℕ) → 0 < w → n ≤ w * n
once_or_more w n some = let le = le-mul_of_pos_right n some in let e = mul_comm n w in omega (arith, le, e)

pub early_meter : (all : Bool) (j : JobRuns RunRecord) (o : Result JobAnswer JobRefusal) (w before after : ℕ) → before ≤ after → after ≤ before + w * cost_of steps_of j.originals → MeterBy (cost_by all j o) w before after (Err fault.Memory)
early_meter all j (Ok x) w before after from most =
    let both = mul-add w (cost_of steps_of j.originals) (cost_of_all steps_of j.mutants) in
    (from, omega (arith, most, both))
early_meter all j (Err refusal) w before after from most = (from, most)

pub refused_meter : (all : Bool) (j : JobRuns RunRecord) (o : Result JobAnswer JobRefusal) (refusal : JobRefusal) (w before after : ℕ) → o ≡ Err refusal → after ≡ before + cost_of steps_of j.originals → MeterBy (cost_by all j o) w before after (Err (fault.Refused refusal))
refused_meter all j o refusal w before after e is =
    subst (λ (x : Result JobAnswer JobRefusal). MeterRose (cost_by all j x) w before after) (sym e)
    (record { least = omega (arith, is); most = omega (arith, is); one = λ one. is })

-- of a job that isn't refused
module _ (all : Bool) (j : JobRuns RunRecord) (o : Result JobAnswer JobRefusal) (x : JobAnswer) (e : o ≡ Ok x) (w before mid : ℕ) (some : 0 < w) (start : mid ≡ before + cost_of steps_of j.originals) where
  pub cells_meter : (after : ℕ) → said.CostsAtMost w j.mutants mid after → MeterBy (cost_by all j o) w before after (Err fault.Memory)
  cells_meter after c =
      let own = once_or_more w (cost_of steps_of j.originals) some in
      let both = mul-add w (cost_of steps_of j.originals) (cost_of_all steps_of j.mutants) in
      let from = c.from in
      let most = c.most in
      subst (λ (y : Result JobAnswer JobRefusal). MeterBy (cost_by all j y) w before after (Err fault.Memory)) (sym e)
      (omega (arith, from, start), omega (arith, most, start, own, both))

  rose : (after : ℕ) → CostsOf all w j.mutants mid after → MeterRose (cost_by all j (Ok x)) w before after
  rose after c =
      let is = c.meter in
      let low = c.least in
      let high = c.most in
      record {
        least = omega (arith, is, start, low);
        most = omega (arith, is, start, high);
        one = λ w1. let same = c.one w1 in omega (arith, is, start, same);
      }

  late_memory : (after : ℕ) → CostsOf all w j.mutants mid after → MeterBy (cost_by all j (Ok x)) w before after (Err fault.Memory)
  late_memory after c =
      let rise = rose after c in
      let least = rise.least in
      let most = rise.most in
      let more = once_or_more w (most_cost steps_of j) some in
      (omega (arith, least), omega (arith, most, more))

  end_case : (after : ℕ) → CostsOf all w j.mutants mid after → (result : Result JobDone JobFault) → MeterBy (cost_by all j (Ok x)) w before after result
  end_case after c (Ok done) = rose after c
  end_case after c (Err (fault.Refused refusal)) = rose after c
  end_case after c (Err fault.Unwritable) = rose after c
  end_case after c (Err fault.Memory) = late_memory after c

  pub end_meter : (after : ℕ) → CostsOf all w j.mutants mid after → (result : Result JobDone JobFault) → MeterBy (cost_by all j o) w before after result
  end_meter after c result = subst (λ (y : Result JobAnswer JobRefusal). MeterBy (cost_by all j y) w before after result) (sym e) (end_case after c result)
