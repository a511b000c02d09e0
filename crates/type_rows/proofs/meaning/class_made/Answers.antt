use Rattle.std.proofs.Common.{◌≡◌, ap, ◌∙◌, Some}
use Rattle.program_rules.specs.Instructions as def
use Rattle.type_rules.specs.Frames.{new_of}
use Rattle.class_link.specs.Opcodes.{on_class}
use Rattle.class_link.specs.View.{instruction_of}
use Rattle.type_rows.proofs.News.{made_at}
use Rattle.type_rows.proofs.meaning.class_made.Goals as goal

pub returns-in_default-class_at-clause-none : goal.returns-in_default-class_at-clause-none
unfolding instruction_of
returns-in_default-class_at-clause-none c =
    let es = c.args.site.now.linked.now.entries in
    let ss = c.args.site.now.code.now.switches in
    made_at es ss c.args.site.now.code.now.instructions c.args.at c.in-Some.instruction.now c.in-Some.ensures
    ∙ ap (λ i. new_of (Some (instruction_of es ss i))) c.in-Some-new_index.ensures.some
    ∙ ap (λ i. new_of (Some i)) (c.in_default-class_at.ensures.none def.New)

pub returns-clause-some : goal.returns-clause-some
unfolding instruction_of
returns-clause-some c =
    let es = c.args.site.now.linked.now.entries in
    let ss = c.args.site.now.code.now.switches in
    made_at es ss c.args.site.now.code.now.instructions c.args.at c.in-Some.instruction.now c.in-Some.ensures
    ∙ ap (λ i. new_of (Some (instruction_of es ss i))) c.in-Some-new_index.ensures.some
    ∙ ap (λ m. new_of (Some (on_class def.New m))) c.in-Some-class_at.ensures.some.0
