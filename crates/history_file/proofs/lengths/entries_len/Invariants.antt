use Rattle.std.proofs.Common.{◌≡◌, List, ℕ, length, map, take}
use Rattle.std.specs.List.{flat_map}
use Rattle.history_rules.specs.Entries.{entry_bytes}
use Rattle.history_rules.specs.Histories.{told_length}
use Rattle.history_file.specs.Reading.{entries_of}
use Rattle.history_file.proofs.lengths.entries_len.Given as goal

abbrev pub invariant-loop-entry : goal.invariant-loop-entry
invariant-loop-entry l =
    (classes pool : List (List ℕ)) → l.len ≡ told_length (length (flat_map (entry_bytes pool) (entries_of classes (map (λ s. s.now) l.texts) (take l.entry-index l.entries))))
