use Rattle.std.proofs.Common.{◌≡◌, length, take}
use Rattle.type_verifier.specs.Tables.{Adds}
use Rattle.type_verifier.specs.Meanings.{MeaningsAre}
use Rattle.type_verifier.specs.Pool.{home_of, ItemsLast}
use Rattle.type_verifier.proofs.pool.items.Given as goal

abbrev pub invariant-loop-index : goal.invariant-loop-index
invariant-loop-index l =
    Adds l.own.program.now l.fn.names l.names
    × MeaningsAre l.names l.own l.meanings
    × (length l.items.items ≡ l.index)
    × ItemsLast l.names.list.items (home_of l.own) (take l.index l.entries) l.items.items
