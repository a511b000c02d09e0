use Rattle.std.proofs.Common.{take, arith, refl}
use Rattle.jvm_state.specs.Slots.{stack_in}
use Rattle.jvm_frames.proofs.Taking.{next_value}
use Rattle.jvm_frames.proofs.Dropping.{next_height, fewer}
use Rattle.jvm_frames.proofs.values.below_values.Goals as goal

pub returns-in_default-clause-none : goal.returns-in_default-clause-none
returns-in_default-clause-none c =
    fewer (stack_in c.args.operands.now c.args.sp) _ c.loop-taken.taken c.args.count c.loop-taken.invariant.rest c.in_default.ensures.none c.loop-taken-test.true

pub loop-taken-preserved : goal.loop-taken-preserved
loop-taken-preserved c =
    let stack = stack_in c.args.operands.now c.args.sp in
    let rest = stack_in c.args.operands.now c.loop-taken.rest in
    let below = stack_in c.args.operands.now c.in-Some.below in
    let n = c.loop-taken.taken in
    let v = c.in-Some.field-0-0 in
    let height = next_height stack rest below n v c.loop-taken.invariant.rest c.in-Some.ensures.some in
    record {
      rest = (next_value stack rest below n (take n stack) v refl c.loop-taken.invariant.rest c.in-Some.ensures.some).1;
      stack = c.in-Some.ensures.below;
      words = omega (arith, height, c.loop-taken.invariant.words, c.in-Some.ensures.words);
      within = omega (arith, c.loop-taken-test.true);
    }
