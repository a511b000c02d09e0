use Rattle.std.proofs.lemmas.Result.{err_from_is_err_and}
use Rattle.codec_rules.specs.Reading.{many_at}
use Rattle.codec_rules.proofs.Loops.{goes_on, ends, is_done}
use Rattle.mt_attrs.specs.Item.{want_of_memory}
use Rattle.mt_attrs.specs.Notes.{note_at}
use Rattle.mt_attrs.proofs.notes.read_counted_notes.Goals as goal

pub returns-in_err-note : goal.returns-in_err-note
returns-in_err-note c =
    let p = err_from_is_err_and c.from_residual.result c.from_residual.ensures.1 in
    rw (p.1, p.2) (ends want_of_memory c.in_err-note.field-0.0 (note_at c.args.pool.now) c.loop.notes c.args.count c.loop.counter c.loop.cur (many_at (note_at c.args.pool.now) c.args.count c.args.cur.now) c.loop-test.true c.in_err-note.ensures c.loop.invariant)

pub loop-preserved : goal.loop-preserved
loop-preserved c = rw c.in_ok-push.ensures.ok (goes_on (note_at c.args.pool.now) c.loop.notes c.args.count c.loop.counter c.loop.cur c.in_ok-note.note c.read_note.new.cur (many_at (note_at c.args.pool.now) c.args.count c.args.cur.now) c.loop-test.true c.in_ok-note.ensures c.loop.invariant)

pub returns : goal.returns
returns c = is_done (note_at c.args.pool.now) c.loop.notes c.args.count c.loop.counter c.loop.cur (many_at (note_at c.args.pool.now) c.args.count c.args.cur.now) c.loop-test.false c.loop.invariant
