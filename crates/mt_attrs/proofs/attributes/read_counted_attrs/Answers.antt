use Rattle.std.proofs.lemmas.Result.{err_from_is_err_and}
use Rattle.mt_attrs.specs.Item.{want_of_memory, many_by}
use Rattle.mt_attrs.proofs.Loops.{goes_by, ends_by, is_done_by}
use Rattle.mt_attrs.specs.Attributes.{attr_at, attr_after}
use Rattle.mt_attrs.specs.Kinds.{all_unseen}
use Rattle.mt_attrs.proofs.attributes.read_counted_attrs.Goals as goal

pub returns-in_err-attr : goal.returns-in_err-attr
returns-in_err-attr c =
    let p = err_from_is_err_and c.from_residual.result c.from_residual.ensures.1 in
    rw (p.1, p.2) (ends_by want_of_memory c.in_err-attr.field-0.0 (attr_at c.args.file_end c.args.pool.now c.args.owner) (attr_after c.args.pool.now c.args.owner) c.loop.attrs c.args.count c.loop.counter c.loop.unseen c.loop.cur (many_by (attr_at c.args.file_end c.args.pool.now c.args.owner) (attr_after c.args.pool.now c.args.owner) all_unseen c.args.count c.args.cur.now) c.loop-test.true c.in_err-attr.ensures c.loop.invariant)

pub loop-preserved : goal.loop-preserved
loop-preserved c = rw (c.in_ok-push.ensures.ok, c.attr_after-unseen.ensures) (goes_by (attr_at c.args.file_end c.args.pool.now c.args.owner) (attr_after c.args.pool.now c.args.owner) c.loop.attrs c.args.count c.loop.counter c.loop.unseen c.loop.cur c.in_ok-attr.attr c.read_attr.new.cur (many_by (attr_at c.args.file_end c.args.pool.now c.args.owner) (attr_after c.args.pool.now c.args.owner) all_unseen c.args.count c.args.cur.now) c.loop-test.true c.in_ok-attr.ensures c.loop.invariant)

pub returns : goal.returns
returns c = is_done_by (attr_at c.args.file_end c.args.pool.now c.args.owner) (attr_after c.args.pool.now c.args.owner) c.loop.attrs c.args.count c.loop.counter c.loop.unseen c.loop.cur (many_by (attr_at c.args.file_end c.args.pool.now c.args.owner) (attr_after c.args.pool.now c.args.owner) all_unseen c.args.count c.args.cur.now) c.loop-test.false c.loop.invariant
