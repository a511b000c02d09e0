use Rattle.std.proofs.Common.{◌≡◌, drop}
use Rattle.class_asm.specs.File.{frames_of}
use Rattle.class_asm.proofs.EachLaws.{fronted}
use Rattle.class_asm.proofs.numbering.frames_of.Given as goal

abbrev pub invariant-loop-frame : goal.invariant-loop-frame
invariant-loop-frame l = fronted l.frames (frames_of l.starts l.next (drop l.frame-index l.stated) l.pool) ≡ frames_of l.starts 0 l.stated l.fn.pool
