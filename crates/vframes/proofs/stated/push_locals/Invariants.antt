use Rattle.std.proofs.Common.{take}
use Rattle.vframes.specs.Stated.{StayRight, AreMoreBy}
use Rattle.vframes.proofs.stated.push_locals.Given as goal

abbrev pub invariant-loop-t : goal.invariant-loop-t
invariant-loop-t l =
    AreMoreBy l.fn.store.items l.store.items l.fn.below (take l.t-index l.types) l.locals
    × StayRight l.fn.store.items l.store.items
