use Rattle.std.proofs.Common.{subst}
use Rattle.class_table.specs.Table.{entries_at}
use Rattle.jvm_code.specs.Decoded.{named_by}
use Rattle.jvm_act.specs.Groups.{IsFrameOf, class_in, switch_in}
use Rattle.jvm_act.proofs.Rows.{means_whole, means_runs}
use Rattle.jvm_act.proofs.inside.act_inside.Goals as goal

pub returns-in-Switch-clause-row : goal.returns-in-Switch-clause-row
returns-in-Switch-clause-row c =
    let p = c.args.p.now in
    let m = c.args.method.now in
    let es = entries_at p c.args.class.0 in
    let w = c.args.world.now in
    means_runs p m.code.longs.items (named_by es m.linked.switches) c.args.op
    (λ named. switch_in named c.in-Switch.switch) c.take_switch-done.result c.args.frames.now c.take_switch-done.new.frames w w
    (subst (IsFrameOf c.args.op) c.in-Switch.is c.requires.group)
    (c.take_switch-done.ensures p es w)

pub returns-in_ok-done-in-Class-clause-row : goal.returns-in_ok-done-in-Class-clause-row
returns-in_ok-done-in-Class-clause-row c =
    let p = c.args.p.now in
    let m = c.args.method.now in
    means_whole p m.code.longs.items (named_by (entries_at p c.args.class.0) m.linked.switches) c.args.op
    (λ named. class_in named c.in-Class.named) c.in_ok-done-in-Class.done c.args.frames.now c.take_class.new.frames c.args.world.now c.take_class.new.world
    (subst (IsFrameOf c.args.op) c.in-Class.is c.requires.group)
    (c.in_ok-done-in-Class.ensures.row m.linked.switches)
