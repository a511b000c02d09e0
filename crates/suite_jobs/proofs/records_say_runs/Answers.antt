use Rattle.suite_jobs.proofs.Saying.{say_runs}
use Rattle.suite_jobs.proofs.records_say_runs.Goals as goal

pub returns : goal.returns
returns c = say_runs c.class_files_are_a_profile.ensures c.runs_list_lines.ensures
