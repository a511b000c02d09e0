use Rattle.std.proofs.Common.{◌≡◌, ◌+◌, length, take, drop, arith, sym, ap, ◌∙◌, ◌∷◌, []}
use Rattle.std.proofs.lemmas.List.{length-append}
use Rattle.jvm_state.specs.Slots.{stack_in}
use Rattle.jvm_frames.proofs.Taking.{next_value}
use Rattle.jvm_frames.proofs.values.top_values.Goals as goal

pub loop-v-preserved : goal.loop-v-preserved
loop-v-preserved c =
    let values = c.loop-v.values.items in
    let stack = stack_in c.args.operands.now c.args.sp in
    let both = next_value stack (stack_in c.args.operands.now c.loop-v.rest) (stack_in c.args.operands.now c.in-Some.below) (length values) values c.in-Some.v c.loop-v.invariant.values c.loop-v.invariant.rest c.in-Some.ensures.some in
    let all = c.in_ok-push.ensures.items in
    let len : length c.push.new.self.items ≡ length values + 1 = ap length all ∙ length-append values (c.in-Some.v ∷ []) in
    record {
      values = all ∙ both.0 ∙ ap (λ n. take n stack) (sym len);
      rest = both.1 ∙ ap (λ n. drop n stack) (sym len);
      stack = c.in-Some.ensures.below;
      within = grind (arith, len, c.loop-v-test.true, c.loop-v.values.ok.0);
    }
