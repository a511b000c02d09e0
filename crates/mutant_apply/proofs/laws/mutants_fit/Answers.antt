use Rattle.mutant_apply.proofs.FitLaws.{mutants_fit_all}
use Rattle.mutant_apply.proofs.laws.mutants_fit.Goals as goal

pub returns : goal.returns
returns c = mutants_fit_all c.listed_exactly.ensures
