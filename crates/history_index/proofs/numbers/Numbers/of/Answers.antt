use Rattle.std.proofs.Common.{◌+◌, ap}
use Rattle.history_index.proofs.Noting.{numbers_step}
use Rattle.history_index.proofs.numbers.Numbers.of.Goals as goal

pub loop-slice-preserved : goal.loop-slice-preserved
loop-slice-preserved c = record {
  before = ap (λ k. k + 1) c.loop-slice.invariant.before;
  numbers = numbers_step c.args.slices.now c.loop-slice.slice-index c.loop-slice.before _ c.loop-slice.numbers c.note.new.self c.loop-slice-test.true c.loop-slice.invariant.before c.loop-slice.invariant.numbers c.in_ok-note.ensures;
}
