use Rattle.std.proofs.Common.{◌≡◌, List, ℕ, length, map, take}
use Rattle.std.specs.List.{flat_map}
use Rattle.history_rules.specs.Spelling.{record_bytes}
use Rattle.history_rules.specs.Histories.{told_length}
use Rattle.history_file.specs.Writing.{records_in}
use Rattle.history_file.proofs.lengths.rows_len.Given as goal

abbrev pub invariant-loop-row : goal.invariant-loop-row
invariant-loop-row l =
    (classes pool : List (List ℕ)) → l.len ≡ told_length (length (flat_map (record_bytes 2 pool) (records_in (map (λ s. s.now) l.texts) classes (take l.row-index l.rows))))
