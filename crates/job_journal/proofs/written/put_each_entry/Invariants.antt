use Rattle.std.proofs.Common.{◌≡◌, ◌++◌, take}
use Rattle.std.specs.List.{flat_map}
use Rattle.history_rules.specs.Entries.{entry_bytes}
use Rattle.job_journal.proofs.written.put_each_entry.Given as goal

abbrev pub invariant-loop-entry : goal.invariant-loop-entry
invariant-loop-entry l = l.out ≡ l.fn.out ++ flat_map (entry_bytes l.numbers) (take l.entry-index l.entries)
