use Rattle.type_verifier.specs.Programs.{FoundAmong}
use Rattle.type_verifier.proofs.programs.first_fault.Given as goal

abbrev pub invariant-loop-id : goal.invariant-loop-id
invariant-loop-id l = FoundAmong l.program l.id l.found
