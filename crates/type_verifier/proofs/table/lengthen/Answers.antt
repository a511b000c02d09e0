use Rattle.type_verifier.proofs.Placing.{as_long, one_longer}
use Rattle.type_verifier.proofs.table.lengthen.Goals as goal

pub loop-frames-init : goal.loop-frames-init
loop-frames-init c = as_long c.args.frames.now.items

pub loop-frames-preserved : goal.loop-frames-preserved
loop-frames-preserved c = one_longer c.args.frames.now.items c.loop-frames.frames.items c.push.new.self.items c.loop-frames.invariant c.in_ok-push.ensures.items
