use Rattle.std.proofs.Common.{arith}
use Rattle.test_select.proofs.Making.{more_counted}
use Rattle.test_select.proofs.selection.count_cells.Goals as goal

pub loop-i-preserved : goal.loop-i-preserved
loop-i-preserved c = record {
  told = more_counted c.args.cover.now c.args.mutants.now c.args.viable.now c.loop-i.i _ _ c.loop-i.count c.count_of.result c.saturating_add-count.result _ c.loop-i-test.true c.requires (c.count_of.ensures c.loop-i.i) (let s = c.saturating_add-count.ensures in omega arith) c.loop-i.invariant.told;
  fits = (let s = c.saturating_add-count.ensures in omega arith);
}
