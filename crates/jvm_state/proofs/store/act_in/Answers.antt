use Rattle.std.proofs.Common.{take, drop, ap, ◌∙◌}
use Rattle.jvm_state.specs.Ops.{instruction_of, row_of, left_by}
use Rattle.jvm_state.proofs.StoreLaws.{steps_parts, stays_parts}
use Rattle.jvm_state.proofs.store.act_in.Goals as goal

pub returns-in-Some-clause-runs : goal.returns-in-Some-clause-runs
returns-in-Some-clause-runs c = λ named p q kind starts.
    let f = c.args.f.now in
    let low = c.split_at_mut-low.ensures in
    let mid = c.split_at_mut-locals.ensures in
    let high = c.split_at_mut-operands.ensures in
    steps_parts (row_of p q kind f.top starts (instruction_of c.args.longs.now named c.args.op)) c.args.slots.now f c.split_at_mut-locals.result.0.now c.split_at_mut-locals.result.1.now c.split_at_mut-operands.result.0.now c.split_at_mut-operands.result.1.now c.act.new.locals c.act.new.operands c.in-Some.at c.in-Some.sp c.requires.frame
    (mid.front ∙ ap (take f.base) low.front) (mid.back ∙ ap (drop f.base) low.front)
    (high.front ∙ ap (take f.top) low.back) (high.back ∙ ap (drop f.top) low.back)
    c.act.auto.locals c.act.auto.operands ((c.in-Some.ensures.runs named p q kind starts).0)

pub returns-in-None-clause-runs : goal.returns-in-None-clause-runs
returns-in-None-clause-runs c = λ named p q kind starts.
    let f = c.args.f.now in
    let low = c.split_at_mut-low.ensures in
    let mid = c.split_at_mut-locals.ensures in
    let high = c.split_at_mut-operands.ensures in
    let row = row_of p q kind f.top starts (instruction_of c.args.longs.now named c.args.op) in
    stays_parts row (left_by c.args.op q row) c.args.slots.now f c.split_at_mut-locals.result.0.now c.split_at_mut-locals.result.1.now c.split_at_mut-operands.result.0.now c.split_at_mut-operands.result.1.now c.act.new.locals c.act.new.operands
    (mid.front ∙ ap (take f.base) low.front) (mid.back ∙ ap (drop f.base) low.front)
    (high.front ∙ ap (take f.top) low.back) (high.back ∙ ap (drop f.top) low.back)
    ((c.in-None.ensures.runs named p q kind starts).1)
