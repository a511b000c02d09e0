use Rattle.history_file.proofs.Again.{read_is_written}
use Rattle.history_file.proofs.what_is_read_is_written.Goals as goal

pub returns : goal.returns
returns c = read_is_written
