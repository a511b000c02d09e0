use Rattle.mt_attrs.proofs.Writing.{Written}
use Rattle.class_reader.specs.Spells.{member_bytes}
use Rattle.class_writer.specs.Writing.{member_bound}
use Rattle.class_writer.proofs.write.put_each.Given as goal

abbrev pub invariant-loop-member : goal.invariant-loop-member
invariant-loop-member l = Written member_bytes member_bound l.members l.member-index l.fn.out l.out
