use Rattle.std.proofs.Common.{subst}
use Rattle.new_history.specs.declared.needed.Needed.{Needed}
use Rattle.new_history.specs.Rows.{NumbersNeeded}
use Rattle.new_history.proofs.Taking.{rows_more, rows_all}
use Rattle.new_history.proofs.rows.rows_of.Goals as goal

pub loop-one-preserved : goal.loop-one-preserved
loop-one-preserved c =
    rows_more c.args.needed.now c.loop-one.one-index c.one-item.result c.args.numbers.now c.loop-one.numbers c.row_of.new.numbers c.loop-one.rows c.push.new.self c.in_ok-row.row c.loop-one-test.true c.loop-one.invariant
    (subst (λ (x : Needed). NumbersNeeded x c.loop-one.numbers c.row_of.new.numbers c.in_ok-row.row) c.one-item.is c.in_ok-row.ensures)
    c.in_ok-push.ensures.ok

pub returns : goal.returns
returns c = rows_all c.args.needed.now c.loop-one.one-index c.args.numbers.now c.loop-one.numbers c.loop-one.rows c.loop-one-test.false c.loop-one.invariant
