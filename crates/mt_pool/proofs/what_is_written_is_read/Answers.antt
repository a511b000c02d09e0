use Rattle.mt_pool.proofs.LayoutLaws.{written_is_read}
use Rattle.mt_pool.proofs.what_is_written_is_read.Goals as goal

pub returns : goal.returns
returns c = written_is_read
