use Rattle.job_journal.proofs.Added.{one_put}
use Rattle.job_journal.proofs.adding.put_classes.Goals as goal

pub loop-entry-preserved : goal.loop-entry-preserved
loop-entry-preserved c =
    one_put c.args.entries.now c.loop-entry.entry-index c.entry-item.result c.args.numbers.now c.loop-entry.numbers c.put_class.new.numbers c.args.out.now c.loop-entry.out c.put_class.new.out c.loop-entry-test.true c.entry-item.is c.loop-entry.invariant c.in_ok-put_class.ensures.numbers c.in_ok-put_class.ensures.out
