use Rattle.new_history.proofs.Taking.{entries_more}
use Rattle.new_history.proofs.numbering.Numbering.entries.Goals as goal

pub loop-entry-preserved : goal.loop-entry-preserved
loop-entry-preserved c =
    entries_more c.args.entries.now c.loop-entry.entry-index c.entry-item.result c.args.self.now c.loop-entry.self c.entry.new.self c.loop-entry.numbers c.push.new.self c.in_ok-entry.entry c.loop-entry-test.true c.entry-item.is c.loop-entry.invariant c.in_ok-entry.ensures c.in_ok-push.ensures.ok
