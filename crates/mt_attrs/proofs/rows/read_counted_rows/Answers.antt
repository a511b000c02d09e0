use Rattle.std.proofs.lemmas.Result.{err_from_is_err_and}
use Rattle.codec_rules.specs.Reading.{many_at}
use Rattle.codec_rules.proofs.Loops.{goes_on, ends, is_done}
use Rattle.mt_attrs.specs.Item.{want_of_memory}
use Rattle.mt_attrs.specs.Rows.{row_at}
use Rattle.mt_attrs.proofs.rows.read_counted_rows.Goals as goal

pub returns-in_err-row : goal.returns-in_err-row
returns-in_err-row c =
    let p = err_from_is_err_and c.from_residual.result c.from_residual.ensures.1 in
    rw (p.1, p.2) (ends want_of_memory c.in_err-row.field-0.0 (row_at c.args.pool.now c.args.starts.now c.args.end) c.loop.rows c.args.count c.loop.counter c.loop.cur (many_at (row_at c.args.pool.now c.args.starts.now c.args.end) c.args.count c.args.cur.now) c.loop-test.true c.in_err-row.ensures c.loop.invariant)

pub loop-preserved : goal.loop-preserved
loop-preserved c = rw c.in_ok-push.ensures.ok (goes_on (row_at c.args.pool.now c.args.starts.now c.args.end) c.loop.rows c.args.count c.loop.counter c.loop.cur c.in_ok-row.row c.read_row.new.cur (many_at (row_at c.args.pool.now c.args.starts.now c.args.end) c.args.count c.args.cur.now) c.loop-test.true c.in_ok-row.ensures c.loop.invariant)

pub returns : goal.returns
returns c = is_done (row_at c.args.pool.now c.args.starts.now c.args.end) c.loop.rows c.args.count c.loop.counter c.loop.cur (many_at (row_at c.args.pool.now c.args.starts.now c.args.end) c.args.count c.args.cur.now) c.loop-test.false c.loop.invariant
