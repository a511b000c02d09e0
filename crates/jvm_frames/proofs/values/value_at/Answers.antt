use Rattle.jvm_state.specs.Slots.{stack_in}
use Rattle.jvm_frames.proofs.Dropping.{value_there, no_value, past_value}
use Rattle.jvm_frames.proofs.values.value_at.Goals as goal

pub returns-in_default : goal.returns-in_default
returns-in_default c =
    past_value (stack_in c.args.operands.now c.args.sp) c.args.place c.in_default.ensures.none

pub returns-in-Some-top_value : goal.returns-in-Some-top_value
returns-in-Some-top_value c =
    value_there (stack_in c.args.operands.now c.args.sp) (stack_in c.args.operands.now c.in-Some.rest) _ c.args.place _ c.in-Some.ensures.stack c.in-Some-top_value.ensures.some

pub returns-in-None : goal.returns-in-None
returns-in-None c =
    no_value (stack_in c.args.operands.now c.args.sp) (stack_in c.args.operands.now c.in-Some.rest) c.args.place c.in-Some.ensures.stack c.in-None.ensures.none
