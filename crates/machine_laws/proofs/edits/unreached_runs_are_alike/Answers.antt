use Rattle.machine_laws.proofs.Unreached.{unreached_alike}
use Rattle.machine_laws.proofs.Reached.{tests_unreached}
use Rattle.machine_laws.proofs.edits.unreached_runs_are_alike.Goals as goal

pub returns : goal.returns
returns c = record { runs = unreached_alike; tests = tests_unreached }
