use Rattle.std.proofs.Common.{◌≡◌, ◌+◌, ◌-◌, arith, subst, sym, ◌∙◌}
use Rattle.jvm_state.specs.Slots.{IsStack}
use Rattle.jvm_frames.specs.Staying.{Stays, in_slots}
use Rattle.jvm_frames.proofs.StaySteps.{stays_more, steps_alone, gone_on, left_there}
use Rattle.jvm_frames.proofs.staying.stay_in_slots.Goals as goal

pub loop-left-preserved : goal.loop-left-preserved
loop-left-preserved c =
    let l = c.loop-left in
    let ops = c.args.ops.now in
    let longs = c.args.longs.now in
    let marks = c.args.marks.now in
    let top = c.args.top in
    let to = c.in-Some.to in
    let rest = c.in-Some.rest in
    let taken = c.args.limit - l.left in
    let runs = c.in-Some.ensures.runs in
    let gone = gone_on longs c.op_at-op.result top l.at l.sp to rest l.locals l.operands c.act.new.locals c.act.new.operands runs in
    let more : taken + 1 ≡ c.args.limit - (l.left - 1) = omega (arith, c.loop-left-test.true, l.invariant.limit) in
    record {
      limit = omega (arith, l.invariant.limit);
      stays = λ class method. subst (λ k. Stays ops longs marks k (in_slots class method c.args.first top c.args.locals.now c.args.operands.now c.args.words) (in_slots class method to top c.act.new.locals c.act.new.operands rest)) more
          (stays_more ops longs marks taken _ _ _ (l.invariant.stays class method)
          (steps_alone ops longs marks class method top l.at l.sp to rest l.locals l.operands c.act.new.locals c.act.new.operands c.op_at-op.result c.op_at-op.ensures c.if-not-is_marked.ensures c.in-Some.ensures.alone runs));
      stack = gone.0;
      within = gone.1;
      locals = c.act.auto.locals ∙ l.invariant.locals;
      operands = c.act.auto.operands ∙ l.invariant.operands;
    }

pub returns-in-None-clause-stays : goal.returns-in-None-clause-stays
returns-in-None-clause-stays c = λ class method.
    let l = c.loop-left in
    let n = c.args.limit - l.left in
    let same = left_there c.args.longs.now c.op_at-op.result c.args.top l.at l.sp l.locals l.operands c.act.new.locals c.act.new.operands c.in-None.ensures.runs in
    subst (λ ms. Stays c.args.ops.now c.args.longs.now c.args.marks.now n (in_slots class method c.args.first c.args.top c.args.locals.now c.args.operands.now c.args.words) (in_slots class method l.at c.args.top ms c.act.new.operands l.sp)) (sym same.0)
    (subst (λ ys. Stays c.args.ops.now c.args.longs.now c.args.marks.now n (in_slots class method c.args.first c.args.top c.args.locals.now c.args.operands.now c.args.words) (in_slots class method l.at c.args.top l.locals ys l.sp)) (sym same.1) (l.invariant.stays class method))

pub returns-in-None-clause-stack : goal.returns-in-None-clause-stack
returns-in-None-clause-stack c =
    let l = c.loop-left in
    let same = left_there c.args.longs.now c.op_at-op.result c.args.top l.at l.sp l.locals l.operands c.act.new.locals c.act.new.operands c.in-None.ensures.runs in
    subst (λ ys. IsStack ys l.sp) (sym same.1) l.invariant.stack
