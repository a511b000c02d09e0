use Rattle.asm_laws.proofs.Whole.{stated}
use Rattle.asm_laws.proofs.class_text_laws.classes_are_read_back.Goals as goal

pub returns : goal.returns
returns c =
    let lines = c.code_lines_are_read_back.ensures in
    let members = c.member_lines_are_read_back.ensures in
    stated c.instruction_lines_are_read_back.ensures members.heads members.notes members.fields members.methods lines.numbers lines.rows lines.frames c.codes_are_labelled.ensures
