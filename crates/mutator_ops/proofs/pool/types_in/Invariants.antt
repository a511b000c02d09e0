use Rattle.std.proofs.Common.{◌≡◌, map, take}
use Rattle.mutator_ops.specs.Calls.{type_in}
use Rattle.mutator_ops.proofs.pool.types_in.Given as goal

abbrev pub invariant-loop-entry : goal.invariant-loop-entry
invariant-loop-entry l = l.types.items ≡ map type_in (take l.entry-index l.entries)
