use Rattle.asm_laws.proofs.LineLaws.{heads_are_read_back, notes_are_read_back, fields_are_read_back, methods_are_read_back}
use Rattle.asm_laws.proofs.text_laws.member_lines_are_read_back.Goals as goal

pub returns-clause-heads : goal.returns-clause-heads
returns-clause-heads c = heads_are_read_back

pub returns-clause-notes : goal.returns-clause-notes
returns-clause-notes c = notes_are_read_back

pub returns-clause-fields : goal.returns-clause-fields
returns-clause-fields c = fields_are_read_back

pub returns-clause-methods : goal.returns-clause-methods
returns-clause-methods c = methods_are_read_back
