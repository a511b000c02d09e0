use Rattle.std.proofs.lemmas.Result.{err_from_is_err_and}
use Rattle.mt_attrs.proofs.Writing.{ends_write}
use Rattle.class_reader.specs.Spells.{member_bytes}
use Rattle.class_writer.specs.Writing.{member_bound}
use Rattle.class_writer.proofs.write.put_each.Goals as goal

pub returns-in_err-put_member : goal.returns-in_err-put_member
returns-in_err-put_member c =
    let p = err_from_is_err_and c.from_residual.result c.from_residual.ensures.1 in
    rw (p.1, p.2) (ends_write member_bytes member_bound c.args.members.now c.loop-member.member-index c.member-item.result c.args.out.now c.loop-member.out c.in_err-put_member.field-0.0 c.loop-member-test.true c.member-item.is c.in_err-put_member.ensures c.loop-member.invariant)
