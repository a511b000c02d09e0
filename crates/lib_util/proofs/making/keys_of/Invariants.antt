use Rattle.std.proofs.Common.{◌≡◌, ◌++◌, length}
use Rattle.library_rules.specs.Collections.{keys_of_entries}
use Rattle.lib_util.proofs.making.keys_of.Given as goal

abbrev pub invariant-loop-rest : goal.invariant-loop-rest
invariant-loop-rest l = keys_of_entries l.items ≡ l.entries.items ++ keys_of_entries l.rest

abbrev pub decreases-loop-rest : goal.decreases-loop-rest
decreases-loop-rest l = length l.rest
