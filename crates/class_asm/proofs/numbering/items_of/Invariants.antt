use Rattle.std.proofs.Common.{◌≡◌, drop}
use Rattle.class_asm.specs.File.{each}
use Rattle.class_asm.specs.File.{item_of}
use Rattle.class_asm.proofs.EachLaws.{fronted}
use Rattle.class_asm.proofs.numbering.items_of.Given as goal

abbrev pub invariant-loop-item : goal.invariant-loop-item
invariant-loop-item l = fronted l.items (each item_of (drop l.item-index l.stated) l.pool) ≡ each item_of l.stated l.fn.pool
