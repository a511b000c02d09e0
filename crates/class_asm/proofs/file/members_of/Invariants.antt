use Rattle.std.proofs.Common.{◌≡◌, drop}
use Rattle.class_asm.specs.File.{each}
use Rattle.class_asm.specs.ClassFile.{member_of}
use Rattle.class_asm.proofs.EachLaws.{fronted}
use Rattle.class_asm.proofs.file.members_of.Given as goal

abbrev pub invariant-loop-member : goal.invariant-loop-member
invariant-loop-member l = fronted l.members (each member_of (drop l.member-index l.stated) l.entries) ≡ each member_of l.stated l.fn.entries
