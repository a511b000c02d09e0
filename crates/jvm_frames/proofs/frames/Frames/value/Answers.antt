use Rattle.jvm_frames.proofs.Dropping.{value_running, no_value_running}
use Rattle.jvm_frames.proofs.frames.Frames.value.Goals as goal

pub returns-in-Some : goal.returns-in-Some
returns-in-Some c =
    value_running c.value_at.result c.self.inside.slots.items c.operands_of.result.now c.deref.result.now c.self.inside.frame c.in-Some.frame c.self.inside.callers.items c.args.self.now c.args.place c.self.view_is c.in-Some.is c.operands_of.ensures c.deref.ensures.value c.value_at.ensures

pub returns-in-None : goal.returns-in-None
returns-in-None c =
    no_value_running c.self.inside.slots.items c.self.inside.frame c.self.inside.callers.items c.args.self.now c.args.place c.self.view_is c.in-None.is
