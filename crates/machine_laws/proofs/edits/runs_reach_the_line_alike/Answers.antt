use Rattle.machine_laws.proofs.Reached.{reach_alike, tests_reach}
use Rattle.machine_laws.proofs.edits.runs_reach_the_line_alike.Goals as goal

pub returns : goal.returns
returns c = record { runs = reach_alike; tests = tests_reach }
