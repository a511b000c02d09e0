use Rattle.std.proofs.Common.{◌-◌, ◌∙◌, arith, length-set}
use Rattle.jvm_array_rows.proofs.Sums.{sizes_before, total_before}
use Rattle.jvm_array_rows.proofs.building.sizes_of.Goals as goal

pub loop-left-preserved : goal.loop-left-preserved
loop-left-preserved c =
    let ns = c.args.counts.now in
    let left = c.loop-left.left in
    let inv = c.loop-left.invariant in
    let some = c.loop-left-test.true in
    record {
      sizes = sizes_before c.loop-left.sizes.items ns left c.loop-left.total some inv.within inv.len inv.sizes inv.total;
      total = total_before ns left c.loop-left.total c.total_with-total.result some inv.within inv.total c.total_with-total.ensures;
      within = omega (arith, inv.within);
      len = length-set c.loop-left.sizes.items (left - 1) c.loop-left.total ∙ inv.len;
    }
