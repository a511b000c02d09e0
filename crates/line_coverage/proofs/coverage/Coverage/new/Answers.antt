use Rattle.line_coverage.proofs.Kept.{none_covers, none_more}
use Rattle.line_coverage.proofs.coverage.Coverage.new.Goals as goal

pub invariant_of-result : goal.invariant_of-result
invariant_of-result c = none_more c.new.result c.new.ensures.empty

pub returns : goal.returns
returns c = none_covers c.new.result c.new.ensures.empty
