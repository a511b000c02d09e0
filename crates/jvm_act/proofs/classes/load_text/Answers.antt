use Rattle.jvm_act.proofs.Rows.{loads_text, no_text}
use Rattle.jvm_act.proofs.classes.load_text.Goals as goal

pub returns-in_ok-done-in-Some-clause-row : goal.returns-in_ok-done-in-Some-clause-row
returns-in_ok-done-in-Some-clause-row c =
    loads_text c.args.p.now c.args.class.0 c.args.index c.in-Some.text.now c.in_ok-done-in-Some.done
    c.args.frames.now c.load_text.new.frames c.args.world.now c.load_text.new.world
    c.in-Some.ensures.some c.in_ok-done-in-Some.ensures.row

pub returns-in-None-clause-row : goal.returns-in-None-clause-row
returns-in-None-clause-row c =
    no_text c.args.p.now c.args.class.0 c.args.index c.args.frames.now c.args.world.now c.in-None.ensures.none
