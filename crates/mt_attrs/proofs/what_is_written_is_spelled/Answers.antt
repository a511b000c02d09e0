use Rattle.mt_attrs.proofs.WrittenLaws.{written_attrs_are_spelled}
use Rattle.mt_attrs.proofs.what_is_written_is_spelled.Goals as goal

pub returns : goal.returns
returns c = written_attrs_are_spelled
