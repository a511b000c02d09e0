use Rattle.jvm_step.proofs.Going.{acts, class_within, few_there, kept_on, runs_code}
use Rattle.jvm_step.proofs.stepping.run_frame.Goals as goal

pub reach_line-requires-clause-class : goal.reach_line-requires-clause-class
reach_line-requires-clause-class c =
    let at = c.args.place in
    class_within c.args.p.now c.args.frames.now at.class.0 at.method at.at c.requires.place c.requires.frames

pub take_instruction-requires-clause-runs : goal.take_instruction-requires-clause-runs
take_instruction-requires-clause-runs c =
    let at = c.args.place in
    runs_code c.args.p.now c.args.frames.now at.class.0 at.method at.at c.requires.place c.in-Some.method.now c.in-Some.ensures.code

pub returns-clause-row : goal.returns-clause-row
returns-clause-row c =
    let at = c.args.place in
    acts c.args.p.now at.class.0 at.method at.at c.in_ok-turn.turn c.args.frames.now c.take_instruction.new.frames c.args.world.now c.reach_line.new.world c.take_instruction.new.world
    c.requires.place c.in_ok-reach_line.ensures.line c.in_ok-reach_line.ensures.kept.limits c.in_ok-turn.ensures.row

pub returns-clause-kept : goal.returns-clause-kept
returns-clause-kept c =
    kept_on c.args.p.now c.args.world.now c.reach_line.new.world c.take_instruction.new.world c.in_ok-reach_line.ensures.kept c.in_ok-turn.ensures.kept

pub take_instruction-requires-clause-few : goal.take_instruction-requires-clause-few
take_instruction-requires-clause-few c =
    let at = c.args.place in
    few_there c.args.p.now c.args.frames.now at.class.0 at.method at.at c.args.world.now c.reach_line.new.world
    c.requires.place c.requires.meaning c.in_ok-reach_line.ensures.line c.requires.few
