use Rattle.std.proofs.Common.{◌≡◌, ◌++◌, map, take}
use Rattle.new_history.proofs.history.all_classes.Given as goal

abbrev pub invariant-loop-class : goal.invariant-loop-class
invariant-loop-class l = map (λ s. s.now) l.classes ≡ map (λ s. s.now) l.fn.old ++ take l.class-index l.fresh
