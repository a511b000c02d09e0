use Rattle.program_rules.specs.Programs.{family}
use Rattle.program_rules.specs.Selection.{select_named}
use Rattle.class_link.specs.View.{method_ref_of}
use Rattle.class_table.specs.Table.{look, name_at}
use Rattle.jvm_receivers.proofs.SpecialCalls.{above_none, above_call}
use Rattle.jvm_receivers.proofs.special.call_above.Goals as goal

pub returns-in_default-clause-row : goal.returns-in_default-clause-row
returns-in_default-clause-row c =
    above_none c.args.p.now (method_ref_of c.args.reference.now) c.args.args.count c.args.class.0 c.args.frames.now c.args.world.now
    c.requires.world.program c.in_default.ensures.ends

pub call_selected-requires-clause-answer : goal.call_selected-requires-clause-answer
call_selected-requires-clause-answer c = record {
  found = select_named (method_ref_of c.args.reference.now) (family (look c.args.p.now) (name_at c.args.p.now c.in-Some.up.0));
  answers = c.in_ok-answer.ensures.answer;
}

pub returns-clause-row : goal.returns-clause-row
returns-clause-row c =
    let p = c.args.p.now in
    let r = method_ref_of c.args.reference.now in
    let up = c.in-Some.up.0 in
    above_call p r c.args.args.count c.args.class.0 up c.in_ok-done.done c.args.frames.now c.call_selected.new.frames c.args.world.now c.consult.new.self c.call_selected.new.world
    c.requires.world.program c.in-Some.ensures.goes_on c.in_ok-consult.ensures.moves c.in_ok-consult.ensures.kept.limits
    (c.in_ok-done.ensures.row (select_named r (family (look p) (name_at p up))) r c.in_ok-answer.ensures.answer)
