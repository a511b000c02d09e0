use Rattle.asm_laws.proofs.SpelledLaws.{assembled_is_spelled}
use Rattle.asm_laws.proofs.what_is_assembled_is_spelled.Goals as goal

pub returns : goal.returns
returns c = assembled_is_spelled c.what_is_written_is_spelled.ensures
