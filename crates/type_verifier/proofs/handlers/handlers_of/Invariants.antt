use Rattle.std.proofs.Common.{take}
use Rattle.type_verifier.specs.Tables.{Adds}
use Rattle.type_verifier.specs.Caught.{RowsAre}
use Rattle.type_verifier.proofs.handlers.handlers_of.Given as goal

abbrev pub invariant-loop-row : goal.invariant-loop-row
invariant-loop-row l =
    Adds l.program l.fn.names l.names
    × RowsAre l.program l.names l.handlers.items (take l.row-index l.rows)
