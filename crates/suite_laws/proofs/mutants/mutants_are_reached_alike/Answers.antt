use Rattle.suite_laws.proofs.RunLaws as runs
use Rattle.suite_laws.proofs.mutants.mutants_are_reached_alike.Goals as goal

pub returns : goal.returns
returns c = runs.reaching_is_alike c.mutants_are_edits.ensures c.runs_reach_the_line_alike.ensures.tests
