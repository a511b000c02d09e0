use Rattle.mt_insn.proofs.LayoutLaws.{written_is_spelled}
use Rattle.mt_insn.proofs.what_is_written_is_spelled.Goals as goal

pub returns : goal.returns
returns c = written_is_spelled
