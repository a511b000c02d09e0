use Rattle.mt_attrs.proofs.LayoutLaws.{spelled_is_written}
use Rattle.mt_attrs.proofs.what_is_spelled_is_written.Goals as goal

pub returns : goal.returns
returns c = spelled_is_written
