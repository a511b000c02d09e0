use Rattle.std.proofs.Common.{sym}
use Rattle.report_pieces.proofs.ClassKeys.{states_first, states_later, states_none}
use Rattle.report_pieces.proofs.class_file.stated_among.Goals as goal

pub returns-in-Some : goal.returns-in-Some
returns-in-Some c = states_first c.args.pool.now c.args.attrs.now c.loop-attr.attr-index c.attr-item.result c.in-Some.name.now c.loop-attr-test.true c.attr-item.is (sym c.in-Some.ensures) c.loop-attr.invariant

pub loop-attr-preserved : goal.loop-attr-preserved
loop-attr-preserved c = states_later c.args.pool.now c.args.attrs.now c.loop-attr.attr-index c.attr-item.result c.loop-attr-test.true c.attr-item.is (sym c.in-None.ensures) c.loop-attr.invariant

pub returns : goal.returns
returns c = states_none c.args.pool.now c.args.attrs.now c.loop-attr.attr-index c.loop-attr-test.false c.loop-attr.invariant
