use Rattle.class_records.proofs.Consulted.{consulted_build}
use Rattle.class_records.proofs.consulted_files_build.Goals as goal

pub returns : goal.returns
returns c =
    consulted_build c.class_files_are_a_profile.ensures c.ordered_walks_are_closed.ensures c.own_programs_build.ensures c.runs_are_closed.ensures.alike
