use Rattle.suite_records.proofs.Files.{originals}
use Rattle.suite_records.proofs.originals_are_reusable.Goals as goal

pub returns : goal.returns
returns c = originals
