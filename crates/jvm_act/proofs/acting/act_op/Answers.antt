use Rattle.jvm_act.proofs.Executed.{done, op_member}
use Rattle.jvm_act.proofs.acting.act_op.Goals as goal

pub returns-in_ok-turn-in-Member-clause-acts : goal.returns-in_ok-turn-in-Member-clause-acts
returns-in_ok-turn-in-Member-clause-acts c =
    let p = c.args.p.now in
    let m = c.args.method.now in
    let k = c.args.class.0 in
    let op = c.args.op in
    let old = c.args.frames.now in
    let new = c.take_member.new.frames in
    let w = c.args.world.now in
    let u = c.take_member.new.world in
    let t = c.in_ok-turn-in-Member.turn in
    done p m k op old c.requires.stands t new w u c.requires.frames
    (op_member p m k op old c.requires.stands c.in-Member.member t new w u c.in-Member.ensures c.in_ok-turn-in-Member.ensures.row)
