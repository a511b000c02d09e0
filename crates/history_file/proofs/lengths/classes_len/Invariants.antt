use Rattle.std.proofs.Common.{◌≡◌, length, map, take}
use Rattle.std.specs.List.{flat_map}
use Rattle.history_rules.specs.Classes.{class_bytes}
use Rattle.history_rules.specs.Histories.{told_length}
use Rattle.history_file.proofs.lengths.classes_len.Given as goal

abbrev pub invariant-loop-class : goal.invariant-loop-class
invariant-loop-class l = l.len ≡ told_length (length (flat_map class_bytes (map (λ s. s.now) (take l.class-index l.classes))))
