use Rattle.asm_laws.proofs.InsnLaws.{insns_are_read_back}
use Rattle.asm_laws.proofs.text_laws.instruction_lines_are_read_back.Goals as goal

pub returns : goal.returns
returns c = insns_are_read_back
