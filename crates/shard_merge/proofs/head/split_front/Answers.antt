use Rattle.std.proofs.lemmas.Result.{err_from_is_err_and}
use Rattle.shard_merge.proofs.Reading.{behind_is, front_read, head_fails, second_fails}
use Rattle.shard_merge.proofs.head.split_front.Goals as goal

pub returns-in_err-head : goal.returns-in_err-head
returns-in_err-head c =
    let p = err_from_is_err_and c.from_residual.result c.from_residual.ensures.1 in
    rw (p.1, p.2) (head_fails c.args.bytes.now c.new-cur.result c.in_err-head.field-0.0 c.new-cur.ensures c.in_err-head.ensures)

pub returns-in_err-_version : goal.returns-in_err-_version
returns-in_err-_version c =
    let p = err_from_is_err_and c.from_residual-in_err-_version.result c.from_residual-in_err-_version.ensures.1 in
    rw (p.1, p.2)
    (second_fails c.args.bytes.now c.new-cur.result c.head_at.new.cur c.new-behind.result c.in_ok-head.head c.split_at.result.1.now c.in_err-_version.field-0.0 c.are_bytes.ensures c.new-cur.ensures c.in_ok-head.ensures c.new-behind.ensures c.split_at.ensures.back c.in_err-_version.ensures)

pub returns : goal.returns
returns c =
    front_read c.args.bytes.now c.new-cur.result c.head_at.new.cur c.new-behind.result c.in_ok-head.head c.split_at.result.1.now (c.in_ok-_version._version, c.second_at.new.cur) c.are_bytes.ensures c.new-cur.ensures c.in_ok-head.ensures c.new-behind.ensures c.split_at.ensures.back c.in_ok-_version.ensures

pub split_at-requires : goal.split_at-requires
split_at-requires c = (behind_is c.args.bytes.now c.new-cur.result c.head_at.new.cur c.in_ok-head.head c.are_bytes.ensures c.new-cur.ensures c.in_ok-head.ensures).0
