use Rattle.true_records.proofs.Holding.{may_be_recorded}
use Rattle.true_records.proofs.laws.originals_may_be_recorded.Goals as goal

pub returns : goal.returns
returns c = may_be_recorded c.found_are_own_tests.ensures c.originals_are_reusable.ensures
