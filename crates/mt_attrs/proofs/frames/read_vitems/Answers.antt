use Rattle.std.proofs.lemmas.Result.{err_from_is_err_and}
use Rattle.codec_rules.specs.Reading.{many_at}
use Rattle.codec_rules.proofs.Loops.{goes_on, ends, is_done}
use Rattle.mt_attrs.specs.Item.{want_of_memory}
use Rattle.mt_attrs.specs.Frames.{vitem_at}
use Rattle.mt_attrs.proofs.frames.read_vitems.Goals as goal

pub returns-in_err-item : goal.returns-in_err-item
returns-in_err-item c =
    let p = err_from_is_err_and c.from_residual.result c.from_residual.ensures.1 in
    rw (p.1, p.2) (ends want_of_memory c.in_err-item.field-0.0 (vitem_at c.args.pool.now c.args.starts.now c.args.first) c.loop.items c.args.count c.loop.counter c.loop.cur (many_at (vitem_at c.args.pool.now c.args.starts.now c.args.first) c.args.count c.args.cur.now) c.loop-test.true c.in_err-item.ensures c.loop.invariant)

pub loop-preserved : goal.loop-preserved
loop-preserved c = rw c.in_ok-push.ensures.ok (goes_on (vitem_at c.args.pool.now c.args.starts.now c.args.first) c.loop.items c.args.count c.loop.counter c.loop.cur c.in_ok-item.item c.read_vitem.new.cur (many_at (vitem_at c.args.pool.now c.args.starts.now c.args.first) c.args.count c.args.cur.now) c.loop-test.true c.in_ok-item.ensures c.loop.invariant)

pub returns : goal.returns
returns c = is_done (vitem_at c.args.pool.now c.args.starts.now c.args.first) c.loop.items c.args.count c.loop.counter c.loop.cur (many_at (vitem_at c.args.pool.now c.args.starts.now c.args.first) c.args.count c.args.cur.now) c.loop-test.false c.loop.invariant
