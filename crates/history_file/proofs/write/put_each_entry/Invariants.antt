use Rattle.std.proofs.Common.{◌≡◌, ◌++◌, map, take}
use Rattle.std.specs.List.{flat_map}
use Rattle.history_rules.specs.Entries.{entry_bytes}
use Rattle.history_file.specs.Reading.{entries_of}
use Rattle.history_file.specs.Writing.{classes_of, used_by}
use Rattle.history_file.proofs.write.put_each_entry.Given as goal

abbrev pub invariant-loop-entry : goal.invariant-loop-entry
invariant-loop-entry l = l.out ≡ l.fn.out ++ flat_map (entry_bytes (used_by l.order)) (entries_of (classes_of l.order) (map (λ s. s.now) l.texts) (take l.entry-index l.entries))
