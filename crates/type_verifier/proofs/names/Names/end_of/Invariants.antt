use Rattle.std.proofs.Common.{length, All}
use Rattle.vframes.specs.Named.{IsNamed}
use Rattle.type_verifier.specs.Tables.{Adds, Leads}
use Rattle.type_verifier.proofs.names.Names.end_of.Given as goal

abbrev pub invariant-loop-number : goal.invariant-loop-number
invariant-loop-number l =
    Adds l.program l.fn.self l.self × Leads l.fn.name l.chain.items l.text
    × All (IsNamed l.program) l.chain.items

abbrev pub decreases-loop-number : goal.decreases-loop-number
decreases-loop-number l = length l.text
