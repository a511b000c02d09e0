use Rattle.std.proofs.Common.{take}
use Rattle.type_verifier.specs.ProgramHeads.{AreMet}
use Rattle.type_verifier.specs.ProgramTables.{AreTables}
use Rattle.type_verifier.proofs.ClassLaws.{NoneBefore}
use Rattle.type_verifier.proofs.classes.first_refused.Given as goal

abbrev pub invariant-loop-k : goal.invariant-loop-k
invariant-loop-k l =
    AreTables l.own l.tables
    × AreMet l.heads (take l.k l.methods)
    × NoneBefore l.own.program.now l.own.name.now l.own.linked.now l.k
