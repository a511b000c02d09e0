use Rattle.std.proofs.Common.{take, drop, ap, refl, ◌∙◌}
use Rattle.machine_rules.specs.Effects.{NoRow}
use Rattle.jvm_state.proofs.StoreLaws.{steps_parts, stays_parts}
use Rattle.jvm_frames.specs.Frames.{pushing}
use Rattle.jvm_frames.proofs.pushing.push_in.Goals as goal

pub returns-in-Some-clause-pushes : goal.returns-in-Some-clause-pushes
returns-in-Some-clause-pushes c =
    let f = c.args.f.now in
    let low = c.split_at_mut-low.ensures in
    let mid = c.split_at_mut-locals.ensures in
    let high = c.split_at_mut-operands.ensures in
    let ls = c.split_at_mut-locals.result.1.now in
    steps_parts (pushing c.args.v f.top) c.args.slots.now f c.split_at_mut-locals.result.0.now ls c.split_at_mut-operands.result.0.now c.split_at_mut-operands.result.1.now ls c.push_value.new.operands c.in-Some.at c.in-Some.sp c.requires.frame
    (mid.front ∙ ap (take f.base) low.front) (mid.back ∙ ap (drop f.base) low.front)
    (high.front ∙ ap (take f.top) low.back) (high.back ∙ ap (drop f.top) low.back)
    refl c.push_value.auto.operands ((c.in-Some.ensures ls).0)

pub returns-in-None-clause-pushes : goal.returns-in-None-clause-pushes
returns-in-None-clause-pushes c =
    let f = c.args.f.now in
    let low = c.split_at_mut-low.ensures in
    let mid = c.split_at_mut-locals.ensures in
    let high = c.split_at_mut-operands.ensures in
    let ls = c.split_at_mut-locals.result.1.now in
    stays_parts (pushing c.args.v f.top) (λ w g fs. NoRow) c.args.slots.now f c.split_at_mut-locals.result.0.now ls c.split_at_mut-operands.result.0.now c.split_at_mut-operands.result.1.now ls c.push_value.new.operands
    (mid.front ∙ ap (take f.base) low.front) (mid.back ∙ ap (drop f.base) low.front)
    (high.front ∙ ap (take f.top) low.back) (high.back ∙ ap (drop f.top) low.back)
    ((c.in-None.ensures ls).1)
