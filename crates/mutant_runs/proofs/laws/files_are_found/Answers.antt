use Rattle.mutant_runs.proofs.FitLaws as fit
use Rattle.mutant_runs.proofs.laws.files_are_found.Goals as goal

pub returns : goal.returns
returns c = fit.files_are_found
