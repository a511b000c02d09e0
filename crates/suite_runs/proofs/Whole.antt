-- A whole job, by its steps.
use Rattle.std.proofs.Common.{◌≡◌, ◌∙◌, inl, inr, ℕ, ◌+◌, ◌*◌, ◌<◌, ◌≤◌, Bool, List, [], length, map, Option, refl, sym, ap, subst, arith}
use Rattle.std.specs.Prelude.{All, Result, Ok, Err, is_some}
use Rattle.std.proofs.lemmas.List.{length-map}
use Rattle.class_link.specs.Info.{Info}
use Rattle.class_link.specs.declared.loaded.Loaded.{Loaded}
use Rattle.mutator_ops.specs.declared.mutant.Mutant.{Mutant}
use Rattle.record_rules.specs.declared.record.RunRecord.{RunRecord}
use Rattle.history_file.specs.Rows.{Numbered}
use Rattle.job_rules.specs.Tried.{Tried, cost_of, detections}
use Rattle.suite_workers.specs.Below.{Allowed, Suite, job_runs, mutant_runs, says, viable_file, steps_of}
use Rattle.suite_workers.specs.Jobs.{cell_runs, covering_numbers, job_in}
use Rattle.suite_workers.specs.Laws.{CellsAreOfSuite}
use Rattle.suite_workers.specs.Old.{history_in, history_of, records_in}
use Rattle.suite_workers.specs.Said.{CostsAtMost, CostsOf, IsKnownIn, IsSaidOf}
use Rattle.suite_workers.specs.declared.look_ups.LookUps.{LookUps}
use Rattle.suite_workers.specs.declared.old_records.OldRecords.{OldRecords}
use Rattle.suite_workers.specs.declared.said.CellsSaid.{CellsSaid}
use Rattle.suite_workers.specs.declared.said.KnownRun.{KnownRun}
use Rattle.suite_workers.specs.declared.setup.JobSetup.{JobSetup}
use Rattle.job_answers.specs.Answers.{answer_by, job_answer}
use Rattle.job_answers.specs.Laws.{AnswersCanBeWritten}
use Rattle.suite_runs.specs.declared.fault.JobFault.{JobFault}
use Rattle.suite_runs.specs.declared.fault.JobFault.TheVariants as fault
use Rattle.suite_runs.specs.declared.job.JobDone.{JobDone}
use Rattle.suite_runs.specs.declared.job.SuiteJob.{SuiteJob}
use Rattle.suite_runs.specs.declared.prepared.Prepared.{Prepared}
use Rattle.suite_runs.specs.Ending.{IsSuiteOf, JobEnds, JobMeters, MayRunJob, allowed_in, suite_of}
use Rattle.suite_runs.specs.Keeping.{FinishEnds}
use Rattle.suite_runs.specs.Originals.{original_cost}
use Rattle.suite_runs.specs.Preparing.{IsReadied, IsSetupFor, Prepares, RisesBy}
use Rattle.suite_runs.proofs.CellsAsked.{cells_are}
use Rattle.suite_runs.proofs.Ended.{cells_meter, early_meter, end_meter, finished_ends, memory_ends, refused_ends, refused_meter}
use Rattle.suite_runs.proofs.Suited.{answers, covering_is, failed_refuses, many_refuses, runs_alike, viable_is}

-- ---- where nothing is prepared

module _ (p : List Info) (j : SuiteJob) (old : OldRecords) where
  pub prepared_ends : (f : JobFault) → Prepares p j old (Err f) → JobEnds p j old (Err f)
  prepared_ends (fault.Refused r) (inl h) files is = refused_ends (allowed_in j) (suite_of files p j) old j.all r (failed_refuses files p j old is r h j.all)
  prepared_ends (fault.Refused r) (inr h) files is = refused_ends (allowed_in j) (suite_of files p j) old j.all r (many_refuses files p j old is r h j.all)
  prepared_ends fault.Unwritable h files is = absurd h
  prepared_ends fault.Memory h files is = memory_ends (allowed_in j) (suite_of files p j) old j.all

  -- what the original runs cost, by the suite
  cost_is : (files : List Loaded) → IsSuiteOf files p j → original_cost p j (records_in old) ≡ cost_of steps_of (job_runs (allowed_in j) (suite_of files p j) (records_in old)).originals
  cost_is files is = ap (cost_of steps_of) (runs_alike files p j (records_in old) is)

  starts : (files : List Loaded) → IsSuiteOf files p j → (before after : ℕ) → after ≡ before + original_cost p j (records_in old) → after ≡ before + cost_of steps_of (job_runs (allowed_in j) (suite_of files p j) (records_in old)).originals
  starts files is before after e = e ∙ ap (λ (n : ℕ). before + n) (cost_is files is)

  pub prepared_meter : (before after : ℕ) (f : JobFault) → Prepares p j old (Err f) → RisesBy {X = Prepared} j.workers (original_cost p j (records_in old)) before after (Err f) → JobMeters p j old before after (Err f)
  prepared_meter before after (fault.Refused r) (inl h) m files is =
      refused_meter j.all (job_runs (allowed_in j) (suite_of files p j) (records_in old)) (job_answer (allowed_in j) (suite_of files p j) (records_in old) j.all) r j.workers before after
      (failed_refuses files p j old is r h j.all) (starts files is before after m)
  prepared_meter before after (fault.Refused r) (inr h) m files is =
      refused_meter j.all (job_runs (allowed_in j) (suite_of files p j) (records_in old)) (job_answer (allowed_in j) (suite_of files p j) (records_in old) j.all) r j.workers before after
      (many_refuses files p j old is r h j.all) (starts files is before after m)
  prepared_meter before after fault.Unwritable h m files is = absurd h
  prepared_meter before after fault.Memory h m files is =
      early_meter j.all (job_runs (allowed_in j) (suite_of files p j) (records_in old)) (job_answer (allowed_in j) (suite_of files p j) (records_in old) j.all) j.workers before after m.from
      (subst (λ (n : ℕ). after ≤ before + j.workers * n) (cost_is files is) m.most)

  pub no_memory : JobEnds p j old (Err fault.Memory)
  no_memory files is = memory_ends (allowed_in j) (suite_of files p j) old j.all

  -- ---- where the cells are run

  module _ (x : Prepared) (r : IsReadied p j old x) (c : JobSetup) (set : IsSetupFor j.mutants.now j.tests.now j.limits j.all x c) (law : CellsAreOfSuite) where
    pub cells_cost : (before mid after : ℕ) → 0 < j.workers → mid ≡ before + original_cost p j (records_in old) → CostsAtMost j.workers (cell_runs p (job_in c)) mid after → JobMeters p j old before after (Err fault.Memory)
    cells_cost before mid after some start h files is =
        cells_meter j.all (job_runs (allowed_in j) (suite_of files p j) (records_in old)) (job_answer (allowed_in j) (suite_of files p j) (records_in old) j.all)
        (answer_by (allowed_in j) (suite_of files p j) (records_in old) j.all) (answers files p j old is x r j.all) j.workers before mid some (starts files is before mid start) after
        (subst (λ (ms : List (List (Tried RunRecord))). CostsAtMost j.workers ms mid after) (cells_are p j old x r c set law files is) h)

    module _ (said : CellsSaid) (h : IsSaidOf c.all (history_of c.look_ups.now) (cell_runs p (job_in c)) said) where
      histories_are : history_of c.look_ups.now ≡ history_in old
      histories_are = ap history_of set.look_ups ∙ r.history

      pub said_known : All (IsKnownIn (history_in old)) said.records
      said_known = subst (λ (o : Option Numbered). All (IsKnownIn o) said.records) histories_are h.histories

      said_of_suite : (files : List Loaded) → IsSuiteOf files p j → IsSaidOf j.all (history_in old) (job_runs (allowed_in j) (suite_of files p j) (records_in old)).mutants said
      said_of_suite files is =
          subst (λ (b : Bool). IsSaidOf b (history_in old) (job_runs (allowed_in j) (suite_of files p j) (records_in old)).mutants said) set.all_is
          (subst (λ (o : Option Numbered). IsSaidOf c.all o (job_runs (allowed_in j) (suite_of files p j) (records_in old)).mutants said) histories_are
          (subst (λ (ms : List (List (Tried RunRecord))). IsSaidOf c.all (history_of c.look_ups.now) ms said) (cells_are p j old x r c set law files is) h))

      said_long : (files : List Loaded) → IsSuiteOf files p j → length said.detections ≡ length j.mutants.now
      unfolding job_runs
      said_long files is =
          let s = suite_of files p j in
          let own = said_of_suite files is in
          ap length own.detections_are ∙ length-map (map (mutant_runs (allowed_in j) s (records_in old)) j.mutants.now) (detections says j.all)
          ∙ length-map j.mutants.now (mutant_runs (allowed_in j) s (records_in old))

      pub as_viable : (files : List Loaded) → IsSuiteOf files p j → length said.detections ≡ length x.viable
      as_viable files is = said_long files is ∙ sym (ap length (viable_is files p j old is x r) ∙ length-map j.mutants.now (λ (m : Mutant). is_some (viable_file p m)))

      pub as_covering : (files : List Loaded) → IsSuiteOf files p j → length said.detections ≡ length x.covering
      as_covering files is =
          said_long files is
          ∙ sym (ap length (covering_is files p j old is x r) ∙ length-map j.mutants.now (covering_numbers (allowed_in j) (suite_of files p j) (records_in old)))

      pub job_ends : AnswersCanBeWritten → (before : ℕ) → MayRunJob p j old before → (result : Result JobDone JobFault) → FinishEnds old x said result → JobEnds p j old result
      job_ends written before may result f files is = finished_ends written files p j old is may.formed x r said (said_of_suite files is) result f

      pub job_meters : (before mid after : ℕ) → 0 < j.workers → mid ≡ before + original_cost p j (records_in old) → CostsOf c.all j.workers (cell_runs p (job_in c)) mid after → (result : Result JobDone JobFault) → JobMeters p j old before after result
      job_meters before mid after some start cost result files is =
          end_meter j.all (job_runs (allowed_in j) (suite_of files p j) (records_in old)) (job_answer (allowed_in j) (suite_of files p j) (records_in old) j.all)
          (answer_by (allowed_in j) (suite_of files p j) (records_in old) j.all) (answers files p j old is x r j.all) j.workers before mid some (starts files is before mid start) after
          (subst (λ (b : Bool). CostsOf b j.workers (job_runs (allowed_in j) (suite_of files p j) (records_in old)).mutants mid after) set.all_is
          (subst (λ (ms : List (List (Tried RunRecord))). CostsOf c.all j.workers ms mid after) (cells_are p j old x r c set law files is) cost))
          result
