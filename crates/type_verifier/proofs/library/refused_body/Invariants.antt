use Rattle.type_verifier.specs.ProgramTables.{AreTables}
use Rattle.type_verifier.specs.Libraries.{BodiesBefore}
use Rattle.type_verifier.proofs.library.refused_body.Given as goal

abbrev pub invariant-loop-k : goal.invariant-loop-k
invariant-loop-k l =
    AreTables l.own l.tables
    × BodiesBefore l.own.program.now l.own.name.now l.own.linked.now l.k
