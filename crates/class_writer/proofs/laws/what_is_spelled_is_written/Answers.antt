use Rattle.class_writer.proofs.WritingLaws.{spelled_is_written_whole}
use Rattle.class_writer.proofs.laws.what_is_spelled_is_written.Goals as goal

pub returns : goal.returns
returns c = spelled_is_written_whole
