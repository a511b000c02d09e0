-- What is passed on of crates below.
pub use Rattle.suite_jobs.specs.Below.{IsListed, asked_on, bytes_of, class_file, classes_in}
pub use Rattle.suite_jobs.specs.Below.{put_file}
pub use Rattle.suite_jobs.specs.Jobs.{Allowed, IsAccepted, IsOfFile, Suite, covering, has_reached}
pub use Rattle.suite_jobs.specs.Jobs.{made_by, mutant_runs, mutant_tried, name_at, numbered}
pub use Rattle.suite_jobs.specs.Jobs.{original_tried, says, tried_on, unless_refused, viable_file}
unfoldable pub use Rattle.suite_jobs.specs.Jobs.{asked_job, job_runs}
pub use Rattle.suite_jobs.specs.Laws.{steps_of}
pub use Rattle.run_records.specs.Asking.{asked, bytes_in, bytes_of as run_records_bytes_of, held_by}
pub use Rattle.run_records.specs.Below.{AreTablesOf, IsRunnable}
pub use Rattle.suite_jobs.specs.Below.{AreSpelled, AreViable, ClassFiles, Code, Duplicate}
pub use Rattle.suite_jobs.specs.Below.{HaveFirstNumbers, IsMadeOf, IsMutantOf, IsReady}
pub use Rattle.suite_jobs.specs.Below.{MutantsAreOf, ProgramEnd, ProgramFault, ReadyMayRun}
pub use Rattle.suite_jobs.specs.Below.{RefusesFirst, SuperCycle, SuperKind, SuperMissing, again}
pub use Rattle.suite_jobs.specs.Below.{covering_at, detected_by, duplicate_in, is_at, least}
pub use Rattle.suite_jobs.specs.Below.{mutant_runs_detected as detected}
pub use Rattle.suite_jobs.specs.Below.{mutant_runs_files_of as files_of}
pub use Rattle.suite_jobs.specs.Below.{mutant_runs_not_viable as not_viable}
pub use Rattle.suite_jobs.specs.Below.{mutant_runs_reaches as reaches, mutant_runs_viable as viable}
pub use Rattle.suite_jobs.specs.Below.{mutant_runs_with_accepted as with_accepted}
pub use Rattle.suite_jobs.specs.Below.{mutant_runs_with_class as with_class, names_in, program_of}
pub use Rattle.suite_jobs.specs.Below.{suite_program_class_file, suite_program_classes_in, timed}
unfoldable pub use Rattle.suite_jobs.specs.Below.{first_fault, verdict_of}
pub use Rattle.suite_jobs.specs.Below.suite_program_Faults as suite_program_Faults
pub use Rattle.suite_jobs.specs.Below.suite_program_declared_fault_ProgramEnd_TheVariants as suite_program_declared_fault_ProgramEnd_TheVariants
