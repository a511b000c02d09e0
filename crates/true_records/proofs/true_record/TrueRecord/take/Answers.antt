use Rattle.std.proofs.Common.{subst}
use Rattle.true_records.specs.Truth.{IsTrueAndFormed}
use Rattle.true_records.proofs.true_record.TrueRecord.take.Goals as goal

pub returns-clause-kept : goal.returns-clause-kept
returns-clause-kept c = subst IsTrueAndFormed c.self.view_is c.self.invariant
