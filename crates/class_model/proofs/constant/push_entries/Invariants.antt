use Rattle.std.proofs.Common.{◌≡◌, ◌++◌, take}
use Rattle.class_model.proofs.constant.push_entries.Given as goal

abbrev pub invariant-loop-entry : goal.invariant-loop-entry
invariant-loop-entry l = l.pool ≡ l.initial.pool ++ take l.entry-index l.added
