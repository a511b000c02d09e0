use Rattle.jvm_step.proofs.Entered.{code_entered, native_entered, empty_entered}
use Rattle.jvm_step.proofs.entering.enter.Goals as goal

pub returns-in_ok-turn-in-Code-clause-row : goal.returns-in_ok-turn-in-Code-clause-row
returns-in_ok-turn-in-Code-clause-row c =
    code_entered c.args.p.now c.args.site c.head_at-head.result c.in-Code.max_locals c.in-Code.max_stack c.code_of-code.result c.args.instance c.in_ok-turn-in-Code.turn
    c.enter_code.new.frames c.args.world.now c.enter_code.new.world
    c.head_at-head.ensures c.in-Code.is c.code_of-code.ensures c.in_ok-turn-in-Code.ensures.row

pub returns-in-Native-clause-row : goal.returns-in-Native-clause-row
returns-in-Native-clause-row c =
    native_entered c.args.p.now c.args.site c.head_at-head.result _ c.args.instance c.args.frames.now c.args.world.now c.args.world.now c.head_at-head.ensures c.in-Native.is

pub returns-in-Empty-clause-row : goal.returns-in-Empty-clause-row
returns-in-Empty-clause-row c =
    empty_entered c.args.p.now c.args.site c.head_at-head.result c.args.instance c.args.frames.now c.args.world.now c.args.world.now c.head_at-head.ensures c.in-Empty.is
