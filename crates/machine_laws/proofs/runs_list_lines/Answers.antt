use Rattle.machine_laws.proofs.Walks.{runs_lines}
use Rattle.machine_laws.proofs.runs_list_lines.Goals as goal

pub returns : goal.returns
returns c = runs_lines
