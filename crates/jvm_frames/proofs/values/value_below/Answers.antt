use Rattle.jvm_frames.proofs.Dropping.{words_below, rest_stack, nothing_below, few_below, has_below}
use Rattle.jvm_frames.proofs.values.value_below.Goals as goal

pub overflow_sub-sp : goal.overflow_sub-sp
overflow_sub-sp c = words_below c.args.operands.now c.args.sp c.args.count c.args.words c.requires.stack c.requires.args

pub top_value-requires : goal.top_value-requires
top_value-requires c = rest_stack c.args.operands.now c.args.sp c.args.count c.args.words c.requires.stack c.requires.args

pub returns-in-Some-clause-some : goal.returns-in-Some-clause-some
returns-in-Some-clause-some c =
    has_below c.args.operands.now c.args.sp c.args.count c.args.words c.requires.stack c.requires.args
    c.in-Some.top.0 c.in-Some.top.1 c.in-Some.ensures.some c.in-Some.ensures.words

pub returns-in-Some-clause-few : goal.returns-in-Some-clause-few
returns-in-Some-clause-few c =
    few_below c.args.operands.now c.args.sp c.args.count c.args.words c.requires.stack c.requires.args
    c.in-Some.top.0 c.in-Some.top.1 c.in-Some.ensures.some c.in-Some.ensures.words

pub returns-in-None-clause-none : goal.returns-in-None-clause-none
returns-in-None-clause-none c =
    nothing_below c.args.operands.now c.args.sp c.args.count c.args.words c.requires.stack c.requires.args c.in-None.ensures.none
