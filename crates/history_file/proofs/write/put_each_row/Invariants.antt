use Rattle.std.proofs.Common.{◌≡◌, ◌++◌, map, take}
use Rattle.std.specs.List.{flat_map}
use Rattle.history_rules.specs.Spelling.{record_bytes}
use Rattle.history_file.specs.Writing.{classes_of, used_by, records_in}
use Rattle.history_file.proofs.write.put_each_row.Given as goal

abbrev pub invariant-loop-row : goal.invariant-loop-row
invariant-loop-row l = l.out ≡ l.fn.out ++ flat_map (record_bytes 2 (used_by l.order)) (records_in (map (λ s. s.now) l.texts) (classes_of l.order) (take l.row-index l.rows))
