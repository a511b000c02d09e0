use Rattle.jvm_step.specs.Steps.{uses}
use Rattle.jvm_step.proofs.Readied.{ready_used, ready_turned}
use Rattle.jvm_step.proofs.calling.use_class.Goals as goal

pub returns-in_ok-turn-in-Ready-clause-row : goal.returns-in_ok-turn-in-Ready-clause-row
returns-in_ok-turn-in-Ready-clause-row c =
    ready_used c.args.p.now c.args.site c.args.frames.now c.args.world.now c.requires.none (uses c.args.how) _ c.in_ok-turn-in-Ready.turn
    c.make_ready.new.frames c.use_ready.new.frames c.make_ready.new.world c.use_ready.new.world
    c.in-Ready.is c.in_ok-readied.ensures.ready c.in_ok-readied.ensures.kept.limits c.in_ok-turn-in-Ready.ensures.row

pub returns-in-Turned-clause-row : goal.returns-in-Turned-clause-row
returns-in-Turned-clause-row c =
    ready_turned c.args.p.now c.args.site c.args.frames.now c.args.world.now c.requires.none (uses c.args.how) _ c.in-Turned.turn
    c.make_ready.new.frames c.make_ready.new.world c.in-Turned.is c.in_ok-readied.ensures.ready
