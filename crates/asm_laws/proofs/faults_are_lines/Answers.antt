use Rattle.asm_laws.proofs.FaultLaws.{faults_are_lines}
use Rattle.asm_laws.proofs.faults_are_lines.Goals as goal

pub returns : goal.returns
returns c = faults_are_lines
