use Rattle.std.proofs.Common.{◌≡◌, ◌++◌, map, take}
use Rattle.std.specs.List.{flat_map}
use Rattle.history_rules.specs.Classes.{class_bytes}
use Rattle.history_file.proofs.write.put_each_class.Given as goal

abbrev pub invariant-loop-class : goal.invariant-loop-class
invariant-loop-class l = l.out ≡ l.fn.out ++ flat_map class_bytes (map (λ s. s.now) (take l.class-index l.classes))
