use Rattle.history_index.proofs.Lengths.{lengths_step}
use Rattle.history_index.proofs.lookout.lengthen.Goals as goal

pub loop-entry-preserved : goal.loop-entry-preserved
loop-entry-preserved c = lengths_step c.args.test c.args.before c.args.after c.args.consulted.now c.loop-entry.entry-index _ c.args.runs.now c.loop-entry.runs c.lengthen_one.new.runs c.requires c.loop-entry-test.true c.loop-entry.invariant c.in_ok-lengthen_one.ensures
