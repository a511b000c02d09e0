use Rattle.machine_laws.proofs.Reached.{reach_the_same, tests_reach_the_same}
use Rattle.machine_laws.proofs.edits.runs_reach_the_line_the_same.Goals as goal

pub returns : goal.returns
returns c = record { runs = reach_the_same; tests = tests_reach_the_same }
