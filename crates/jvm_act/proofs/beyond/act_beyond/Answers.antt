use Rattle.jvm_act.proofs.Further.{turned}
use Rattle.jvm_act.proofs.Executed.{op_calls, op_member}
use Rattle.jvm_act.proofs.beyond.act_beyond.Goals as goal

pub returns-in_ok-turn-in-Member-clause-row : goal.returns-in_ok-turn-in-Member-clause-row
returns-in_ok-turn-in-Member-clause-row c =
    let p = c.args.p.now in
    let m = c.args.method.now in
    let k = c.args.class.0 in
    let op = c.args.op in
    let old = c.args.frames.now in
    let new = c.take_member.new.frames in
    let w = c.args.world.now in
    let u = c.take_member.new.world in
    let t = c.in_ok-turn-in-Member.turn in
    turned p m k op t old new w u c.requires.stands c.requires.frames
    (op_member p m k op old c.requires.stands c.in-Member.member t new w u c.in-Member.ensures c.in_ok-turn-in-Member.ensures.row)

pub returns-in_ok-turn-in-Call-clause-row : goal.returns-in_ok-turn-in-Call-clause-row
returns-in_ok-turn-in-Call-clause-row c =
    let p = c.args.p.now in
    let m = c.args.method.now in
    let k = c.args.class.0 in
    let op = c.args.op in
    let old = c.args.frames.now in
    let new = c.take_call.new.frames in
    let w = c.args.world.now in
    let u = c.take_call.new.world in
    let t = c.in_ok-turn-in-Call.turn in
    turned p m k op t old new w u c.requires.stands c.requires.frames
    (op_calls p m k op old c.requires.stands c.in-Call.how c.in-Call.index t new w u c.in-Call.ensures c.in_ok-turn-in-Call.ensures.row)
