use Rattle.mt_pool.proofs.LayoutLaws.{read_is_written}
use Rattle.mt_pool.proofs.what_is_read_is_written.Goals as goal

pub returns : goal.returns
returns c = read_is_written
