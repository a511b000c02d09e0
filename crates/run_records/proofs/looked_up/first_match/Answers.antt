use Rattle.std.proofs.Common.{◌∙◌, sym}
use Rattle.run_records.specs.Asking.{asked}
use Rattle.run_records.proofs.Finding.{ends, found, goes_on}
use Rattle.run_records.proofs.looked_up.first_match.Goals as goal

pub returns-then-matches : goal.returns-then-matches
returns-then-matches c =
    found c.args.records.now c.loop-record.record-index (asked c.args.p.now c.args.test.now c.args.limits c.args.limit) c.loop-record.invariant
    c.record-item.result c.loop-record-test.true c.record-item.is (sym c.matches.ensures ∙ c.if-matches.true)

pub loop-record-preserved : goal.loop-record-preserved
loop-record-preserved c =
    goes_on c.args.records.now c.loop-record.record-index (asked c.args.p.now c.args.test.now c.args.limits c.args.limit) c.loop-record.invariant
    c.record-item.result c.loop-record-test.true c.record-item.is (sym c.matches.ensures ∙ c.if-matches.false)

pub returns : goal.returns
returns c =
    ends c.args.records.now c.loop-record.record-index (asked c.args.p.now c.args.test.now c.args.limits c.args.limit) c.loop-record.invariant c.loop-record-test.false
