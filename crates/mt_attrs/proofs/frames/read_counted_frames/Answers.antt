use Rattle.std.proofs.lemmas.Result.{err_from_is_err_and}
use Rattle.mt_attrs.specs.Item.{want_of_memory, many_by}
use Rattle.mt_attrs.proofs.Loops.{goes_by, ends_by, is_done_by}
use Rattle.mt_attrs.specs.Frames.{frame_at, next_behind}
use Rattle.mt_attrs.proofs.frames.read_counted_frames.Goals as goal

pub returns-in_err-frame : goal.returns-in_err-frame
returns-in_err-frame c =
    let p = err_from_is_err_and c.from_residual.result c.from_residual.ensures.1 in
    rw (p.1, p.2) (ends_by want_of_memory c.in_err-frame.field-0.0 (frame_at c.args.pool.now c.args.starts.now) (next_behind c.args.starts.now) c.loop.frames c.args.count c.loop.counter c.loop.next c.loop.cur (many_by (frame_at c.args.pool.now c.args.starts.now) (next_behind c.args.starts.now) 0 c.args.count c.args.cur.now) c.loop-test.true c.in_err-frame.ensures c.loop.invariant.0)

pub loop-preserved : goal.loop-preserved
loop-preserved c = (rw (c.in_ok-push.ensures.ok, c.behind_start-next.ensures.is) (goes_by (frame_at c.args.pool.now c.args.starts.now) (next_behind c.args.starts.now) c.loop.frames c.args.count c.loop.counter c.loop.next c.loop.cur c.in_ok-frame.frame c.read_frame.new.cur (many_by (frame_at c.args.pool.now c.args.starts.now) (next_behind c.args.starts.now) 0 c.args.count c.args.cur.now) c.loop-test.true c.in_ok-frame.ensures c.loop.invariant.0), c.behind_start-next.ensures.near)

pub returns : goal.returns
returns c = is_done_by (frame_at c.args.pool.now c.args.starts.now) (next_behind c.args.starts.now) c.loop.frames c.args.count c.loop.counter c.loop.next c.loop.cur (many_by (frame_at c.args.pool.now c.args.starts.now) (next_behind c.args.starts.now) 0 c.args.count c.args.cur.now) c.loop-test.false c.loop.invariant.0
