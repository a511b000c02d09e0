use Rattle.std.proofs.Common.{◌≡◌, map, take}
use Rattle.vframes.specs.Fresh.{slot_replaced}
use Rattle.vframes.proofs.fresh.Fresh.replace.Given as goal

abbrev pub invariant-loop-t : goal.invariant-loop-t
invariant-loop-t l = l.replaced.items ≡ map (slot_replaced l.self l.with) (take l.t-index l.types)
