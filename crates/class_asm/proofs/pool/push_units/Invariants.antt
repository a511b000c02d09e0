use Rattle.std.proofs.Common.{◌≡◌, ◌++◌, take}
use Rattle.class_asm.proofs.pool.push_units.Given as goal

abbrev pub invariant-loop-byte : goal.invariant-loop-byte
invariant-loop-byte l = l.units ≡ l.fn.units ++ take l.byte-index l.byte-items
