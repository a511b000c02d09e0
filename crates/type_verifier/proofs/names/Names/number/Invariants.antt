use Rattle.std.proofs.Common.{length, All}
use Rattle.vframes.specs.Named.{IsNamed}
use Rattle.type_verifier.specs.Tables.{Adds, EndsAt}
use Rattle.type_verifier.proofs.names.Names.number.Given as goal

abbrev pub invariant-loop-named : goal.invariant-loop-named
invariant-loop-named l =
    Adds l.program l.fn.self l.self × All (IsNamed l.program) l.chain.items
    × EndsAt l.self.list.items l.name l.chain.items l.number

abbrev pub decreases-loop-named : goal.decreases-loop-named
decreases-loop-named l = length l.chain.items
