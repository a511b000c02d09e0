use Rattle.class_records.proofs.Consulted.{records_true}
use Rattle.class_records.proofs.records_of_files_are_true.Goals as goal

pub returns : goal.returns
returns c =
    records_true c.class_files_are_a_profile.ensures c.consulted_files_build.ensures c.records_of_runs_are_true.ensures
