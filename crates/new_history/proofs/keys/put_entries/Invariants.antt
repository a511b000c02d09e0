use Rattle.std.proofs.Common.{◌≡◌, ◌++◌, take}
use Rattle.std.specs.List.{flat_map}
use Rattle.new_history.specs.Keys.{entry_key}
use Rattle.new_history.proofs.keys.put_entries.Given as goal

abbrev pub invariant-loop-entry : goal.invariant-loop-entry
invariant-loop-entry l = l.key.items ≡ l.fn.key.items ++ flat_map entry_key (take l.entry-index l.entries)
