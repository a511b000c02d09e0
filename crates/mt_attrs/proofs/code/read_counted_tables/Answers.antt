use Rattle.std.proofs.Common.{true}
use Rattle.std.proofs.lemmas.Result.{err_from_is_err_and}
use Rattle.mt_attrs.specs.Item.{want_of_memory, many_by}
use Rattle.mt_attrs.proofs.Loops.{goes_by, ends_by, is_done_by}
use Rattle.mt_attrs.specs.CodeParts.{table_at, table_after}
use Rattle.mt_attrs.proofs.code.read_counted_tables.Goals as goal

pub returns-in_err-attr : goal.returns-in_err-attr
returns-in_err-attr c =
    let p = err_from_is_err_and c.from_residual.result c.from_residual.ensures.1 in
    rw (p.1, p.2) (ends_by want_of_memory c.in_err-attr.field-0.0 (table_at c.args.file_end c.args.pool.now c.args.starts.now) (table_after c.args.pool.now) c.loop.attrs c.args.count c.loop.counter c.loop.unseen c.loop.cur (many_by (table_at c.args.file_end c.args.pool.now c.args.starts.now) (table_after c.args.pool.now) true c.args.count c.args.cur.now) c.loop-test.true c.in_err-attr.ensures c.loop.invariant)

pub loop-preserved : goal.loop-preserved
loop-preserved c = rw (c.in_ok-push.ensures.ok, c.table_after-unseen.ensures) (goes_by (table_at c.args.file_end c.args.pool.now c.args.starts.now) (table_after c.args.pool.now) c.loop.attrs c.args.count c.loop.counter c.loop.unseen c.loop.cur c.in_ok-attr.attr c.read_table.new.cur (many_by (table_at c.args.file_end c.args.pool.now c.args.starts.now) (table_after c.args.pool.now) true c.args.count c.args.cur.now) c.loop-test.true c.in_ok-attr.ensures c.loop.invariant)

pub returns : goal.returns
returns c = is_done_by (table_at c.args.file_end c.args.pool.now c.args.starts.now) (table_after c.args.pool.now) c.loop.attrs c.args.count c.loop.counter c.loop.unseen c.loop.cur (many_by (table_at c.args.file_end c.args.pool.now c.args.starts.now) (table_after c.args.pool.now) true c.args.count c.args.cur.now) c.loop-test.false c.loop.invariant
