use Rattle.std.proofs.Common.{◌≡◌, ◌+◌, arith}
use Rattle.std.specs.Io.Iter.{u64_saturate}
use Rattle.suite_runs.proofs.CoveringAll.{count_next}
use Rattle.suite_runs.proofs.covering.cell_count.Goals as goal

pub loop-at-preserved : goal.loop-at-preserved
loop-at-preserved c =
    let sum : c.saturating_add-count.result ≡ u64_saturate (c.loop-at.count + c.count_of-own.result) = (let s = c.saturating_add-count.ensures in omega arith) in
    count_next c.args.program.now c.args.cover.now c.args.mutants.now c.args.viable.now c.loop-at.at c.index-mutants-at.result _ c.loop-at.count c.count_of-own.result c.saturating_add-count.result c.requires c.loop-at-test.true c.index-mutants-at.is c.loop-at.invariant c.count_of-own.ensures sum
