use Rattle.std.proofs.Common.{drop, reverse}
use Rattle.type_verifier.proofs.Expanding.{HasExpanded}
use Rattle.type_verifier.proofs.frames.expand.Given as goal

abbrev pub invariant-loop-difference : goal.invariant-loop-difference
invariant-loop-difference l =
    HasExpanded l.method (reverse l.first) l.differences (drop l.difference-index l.differences) l.store.items l.before l.frames.items
