use Rattle.suite_laws.proofs.RunLaws as runs
use Rattle.suite_laws.proofs.mutants.unreached_mutants_run_alike.Goals as goal

pub returns : goal.returns
returns c = runs.unreached_is_alike c.mutants_are_edits.ensures c.unreached_runs_are_alike.ensures.tests
