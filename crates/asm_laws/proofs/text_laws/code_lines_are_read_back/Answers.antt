use Rattle.asm_laws.proofs.FrameLaws.{frames_are_read_back}
use Rattle.asm_laws.proofs.LineLaws.{numbers_are_read_back, rows_are_read_back}
use Rattle.asm_laws.proofs.text_laws.code_lines_are_read_back.Goals as goal

pub returns-clause-numbers : goal.returns-clause-numbers
returns-clause-numbers c = numbers_are_read_back

pub returns-clause-rows : goal.returns-clause-rows
returns-clause-rows c = rows_are_read_back

pub returns-clause-frames : goal.returns-clause-frames
returns-clause-frames c = frames_are_read_back
