use Rattle.suite_laws.proofs.IntJumps as jumps
use Rattle.suite_laws.proofs.mutants.int_jumps_are_exchanged.Goals as goal

pub returns : goal.returns
returns c = jumps.int_jumps_are_exchanged
