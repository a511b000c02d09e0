use Rattle.std.proofs.Common.{◌≡◌, ◌++◌, take}
use Rattle.type_verifier.proofs.first.add_all.Given as goal

abbrev pub invariant-loop-t : goal.invariant-loop-t
invariant-loop-t l = l.types.items ≡ l.fn.types.items ++ take l.t-index l.more
