use Rattle.std.proofs.Common.{◌≡◌, drop}
use Rattle.class_asm.specs.File.{each}
use Rattle.class_asm.specs.Numbering.{class_index}
use Rattle.class_asm.proofs.EachLaws.{fronted}
use Rattle.class_asm.proofs.file.interfaces_of.Given as goal

abbrev pub invariant-loop-name : goal.invariant-loop-name
invariant-loop-name l = fronted l.indices (each class_index (drop l.name-index l.names) l.pool) ≡ each class_index l.names l.fn.pool
