use Rattle.std.proofs.Common.{◌++◌, take, drop, ap, ◌∙◌, subst}
use Rattle.jvm_frames.specs.Frames.{numbered}
use Rattle.jvm_frames.specs.Staying.{Stays, in_slots}
use Rattle.jvm_frames.proofs.StaySteps.{stood, numbered_here, numbered_there}
use Rattle.jvm_frames.proofs.staying.stay_in.Goals as goal

pub returns-clause-frame : goal.returns-clause-frame
returns-clause-frame c =
    let f = c.args.f.now in
    let low = c.split_at_mut-low.ensures in
    let mid = c.split_at_mut-locals.ensures in
    let high = c.split_at_mut-operands.ensures in
    (stood c.args.slots.now f c.split_at_mut-locals.result.0.now c.split_at_mut-locals.result.1.now c.split_at_mut-operands.result.0.now c.split_at_mut-operands.result.1.now c.stay_in_slots-taken.new.locals c.stay_in_slots-taken.new.operands c.stay_in_slots-taken.result.1 c.stay_in_slots-taken.result.2 c.requires
    (mid.front ∙ ap (take f.base) low.front) (mid.back ∙ ap (drop f.base) low.front)
    (high.front ∙ ap (take f.top) low.back) (high.back ∙ ap (drop f.top) low.back)
    c.stay_in_slots-taken.ensures.locals c.stay_in_slots-taken.ensures.operands c.stay_in_slots-taken.ensures.stack c.stay_in_slots-taken.ensures.within).frame

pub returns-clause-below : goal.returns-clause-below
returns-clause-below c =
    let f = c.args.f.now in
    let low = c.split_at_mut-low.ensures in
    let mid = c.split_at_mut-locals.ensures in
    let high = c.split_at_mut-operands.ensures in
    (stood c.args.slots.now f c.split_at_mut-locals.result.0.now c.split_at_mut-locals.result.1.now c.split_at_mut-operands.result.0.now c.split_at_mut-operands.result.1.now c.stay_in_slots-taken.new.locals c.stay_in_slots-taken.new.operands c.stay_in_slots-taken.result.1 c.stay_in_slots-taken.result.2 c.requires
    (mid.front ∙ ap (take f.base) low.front) (mid.back ∙ ap (drop f.base) low.front)
    (high.front ∙ ap (take f.top) low.back) (high.back ∙ ap (drop f.top) low.back)
    c.stay_in_slots-taken.ensures.locals c.stay_in_slots-taken.ensures.operands c.stay_in_slots-taken.ensures.stack c.stay_in_slots-taken.ensures.within).below

pub returns-clause-stays : goal.returns-clause-stays
returns-clause-stays c =
    let f = c.args.f.now in
    let xs = c.args.slots.now in
    let low = c.split_at_mut-low.ensures in
    let mid = c.split_at_mut-locals.ensures in
    let high = c.split_at_mut-operands.ensures in
    let front = c.split_at_mut-locals.result.0.now in
    let ls = c.split_at_mut-locals.result.1.now in
    let os = c.split_at_mut-operands.result.0.now in
    let back = c.split_at_mut-operands.result.1.now in
    let ms = c.stay_in_slots-taken.new.locals in
    let ys = c.stay_in_slots-taken.new.operands in
    let n = c.stay_in_slots-taken.result.0 in
    let to = c.stay_in_slots-taken.result.1 in
    let left = c.stay_in_slots-taken.result.2 in
    let a = mid.front ∙ ap (take f.base) low.front in
    let b = mid.back ∙ ap (drop f.base) low.front in
    let d = high.front ∙ ap (take f.top) low.back in
    let e = high.back ∙ ap (drop f.top) low.back in
    let s = c.stay_in_slots-taken.ensures in
    let here = numbered_here xs f front ls os back ms ys to left c.requires a b d e s.locals s.operands s.stack s.within in
    let there = numbered_there xs f front ls os back ms ys to left c.requires a b d e s.locals s.operands s.stack s.within in
    subst (λ g. Stays c.args.ops.now c.args.longs.now c.args.marks.now n g (numbered (front ++ ms ++ (ys ++ back)) (record f { at = to; sp = left }))) here
    (subst (λ g. Stays c.args.ops.now c.args.longs.now c.args.marks.now n (in_slots f.class.0 f.method f.at f.top ls os f.sp) g) there (s.stays f.class.0 f.method))
