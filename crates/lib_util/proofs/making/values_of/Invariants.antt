use Rattle.std.proofs.Common.{◌≡◌, ◌++◌, length}
use Rattle.library_rules.specs.Collections.{values_of_entries}
use Rattle.lib_util.proofs.making.values_of.Given as goal

abbrev pub invariant-loop-rest : goal.invariant-loop-rest
invariant-loop-rest l = values_of_entries l.items ≡ l.values.items ++ values_of_entries l.rest

abbrev pub decreases-loop-rest : goal.decreases-loop-rest
decreases-loop-rest l = length l.rest
