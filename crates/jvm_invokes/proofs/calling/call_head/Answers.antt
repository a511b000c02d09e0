use Rattle.jvm_invokes.proofs.Standing.{code_call, code_frames, empty_call}
use Rattle.jvm_invokes.proofs.calling.call_head.Goals as goal

pub returns-in_ok-turn-in-Code-clause-row : goal.returns-in_ok-turn-in-Code-clause-row
returns-in_ok-turn-in-Code-clause-row c = λ m r is.
    code_call c.args.p.now r m c.args.site c.args.head c.in-Code.max_locals c.in-Code.max_stack c.args.args.count c.code_of-code.result c.in_ok-turn-in-Code.turn
    c.args.frames.now c.enter_code.new.frames c.args.world.now c.enter_code.new.world
    is c.requires.head c.in-Code.is c.code_of-code.ensures c.in_ok-turn-in-Code.ensures.row

pub returns-in_ok-turn-in-Code-clause-frames : goal.returns-in_ok-turn-in-Code-clause-frames
returns-in_ok-turn-in-Code-clause-frames c =
    code_frames c.args.p.now c.args.site c.args.head c.in-Code.max_locals c.in-Code.max_stack c.args.args.count c.code_of-code.result
    c.args.frames.now c.enter_code.new.frames
    c.requires.site c.requires.head c.in-Code.is c.code_of-code.ensures c.in_ok-turn-in-Code.ensures.frames

pub returns-in_ok-turn-in-Empty-clause-row : goal.returns-in_ok-turn-in-Empty-clause-row
returns-in_ok-turn-in-Empty-clause-row c = λ m r is.
    empty_call c.args.p.now r m c.args.site c.args.head c.args.args.count c.in_ok-turn-in-Empty.turn
    c.args.frames.now c.throw_without.new.frames c.args.world.now c.throw_without.new.world
    is c.requires.head c.in-Empty.is c.in_ok-turn-in-Empty.ensures.row
