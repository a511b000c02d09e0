use Rattle.std.proofs.lemmas.Result.{err_from_is_err_and}
use Rattle.codec_rules.specs.Reading.{many_at}
use Rattle.codec_rules.proofs.Loops.{goes_on, ends, is_done}
use Rattle.mt_attrs.specs.Item.{want_of_memory}
use Rattle.mt_attrs.specs.Lines.{line_at}
use Rattle.mt_attrs.proofs.lines.read_counted_lines.Goals as goal

pub returns-in_err-line : goal.returns-in_err-line
returns-in_err-line c =
    let p = err_from_is_err_and c.from_residual.result c.from_residual.ensures.1 in
    rw (p.1, p.2) (ends want_of_memory c.in_err-line.field-0.0 (line_at c.args.starts.now) c.loop.lines c.args.count c.loop.counter c.loop.cur (many_at (line_at c.args.starts.now) c.args.count c.args.cur.now) c.loop-test.true c.in_err-line.ensures c.loop.invariant)

pub loop-preserved : goal.loop-preserved
loop-preserved c = rw c.in_ok-push.ensures.ok (goes_on (line_at c.args.starts.now) c.loop.lines c.args.count c.loop.counter c.loop.cur c.in_ok-line.line c.read_line.new.cur (many_at (line_at c.args.starts.now) c.args.count c.args.cur.now) c.loop-test.true c.in_ok-line.ensures c.loop.invariant)

pub returns : goal.returns
returns c = is_done (line_at c.args.starts.now) c.loop.lines c.args.count c.loop.counter c.loop.cur (many_at (line_at c.args.starts.now) c.args.count c.args.cur.now) c.loop-test.false c.loop.invariant
