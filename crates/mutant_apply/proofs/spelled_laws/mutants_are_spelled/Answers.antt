use Rattle.mutant_apply.proofs.SpelledKeeping.{mutants_spelled}
use Rattle.mutant_apply.proofs.spelled_laws.mutants_are_spelled.Goals as goal

pub returns : goal.returns
returns c = mutants_spelled c.edits_are_spelled.ensures c.what_is_spelled_is_written.ensures c.mutants_fit.ensures
