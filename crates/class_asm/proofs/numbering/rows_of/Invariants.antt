use Rattle.std.proofs.Common.{◌≡◌, drop}
use Rattle.class_asm.specs.File.{each}
use Rattle.class_asm.specs.File.{row_of}
use Rattle.class_asm.proofs.EachLaws.{fronted}
use Rattle.class_asm.proofs.numbering.rows_of.Given as goal

abbrev pub invariant-loop-row : goal.invariant-loop-row
invariant-loop-row l = fronted l.rows (each row_of (drop l.row-index l.stated) l.pool) ≡ each row_of l.stated l.fn.pool
