use Rattle.class_writer.proofs.WrittenLaws.{written_is_spelled_whole}
use Rattle.class_writer.proofs.laws.what_is_written_is_spelled.Goals as goal

pub returns : goal.returns
returns c = written_is_spelled_whole
