-- What is passed on of crates below.
pub use Rattle.suite_workers.specs.Below.{ClassFiles, IsMutantOf, files_of, with_class}
pub use Rattle.suite_workers.specs.Below.{IsReady}
pub use Rattle.suite_workers.specs.Below.{detected, reaches, timed}
pub use Rattle.suite_workers.specs.Below.{not_viable}
unfoldable pub use Rattle.suite_workers.specs.Below.{verdict_of}
pub use Rattle.suite_workers.specs.Below.{bytes_in, run_records_bytes_of as info_bytes, held_by}
pub use Rattle.suite_workers.specs.Below.{Allowed, IsAccepted, IsListed, IsOfFile, Suite, asked_on}
pub use Rattle.suite_workers.specs.Below.{bytes_of, has_reached, put_file, says, tried_on}
unfoldable pub use Rattle.suite_workers.specs.Below.{asked_job, job_runs}
pub use Rattle.suite_workers.specs.Jobs.{HoldsFiles}
pub use Rattle.suite_workers.specs.Old.{records_in}
pub use Rattle.suite_workers.specs.declared.old_records.OldRecords.{OldRecords}
pub use Rattle.job_answers.specs.Answers.{JobAnswer, JobCost, answer_by, asked_cells, asked_cost}
pub use Rattle.job_answers.specs.Answers.{cell_total, cost_by, failed_tests, job_cost, job_reused}
pub use Rattle.job_answers.specs.Answers.{job_scratch, most_cells, unless_failed, unless_many}
pub use Rattle.job_answers.specs.Answers.{need_of, verdict_by_every, verdict_of_runs}
unfoldable pub use Rattle.job_answers.specs.Answers.{job_answer}
pub use Rattle.job_answers.specs.Laws.{AnswersAreFromScratch, TrueRecordsChangeNothing}
pub use Rattle.job_answers.specs.declared.refusal.FailedTest.{FailedTest}
pub use Rattle.job_answers.specs.declared.refusal.JobRefusal.{JobRefusal}
pub use Rattle.suite_workers.specs.Below.{AreSpelled, Code, Duplicate, HaveFirstNumbers, IsMadeOf}
pub use Rattle.suite_workers.specs.Below.{ProgramEnd, ProgramFault, RefusesFirst, SuperCycle}
pub use Rattle.suite_workers.specs.Below.{SuperKind, SuperMissing, again, duplicate_in, least}
pub use Rattle.suite_workers.specs.Below.{names_in, program_of}
pub use Rattle.suite_workers.specs.Below.{suite_program_class_file as class_file}
pub use Rattle.suite_workers.specs.Below.{suite_program_classes_in as classes_in}
unfoldable pub use Rattle.suite_workers.specs.Below.{first_fault}
pub use Rattle.job_answers.specs.declared.refusal.JobRefusal.TheVariants as job_answers_declared_refusal_JobRefusal_TheVariants
pub use Rattle.suite_workers.specs.Below.suite_program_Faults as suite_program_Faults
pub use Rattle.suite_workers.specs.Below.suite_program_declared_fault_ProgramEnd_TheVariants as suite_program_declared_fault_ProgramEnd_TheVariants
