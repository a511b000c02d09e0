use Rattle.suite_laws.proofs.RunLaws as runs
use Rattle.suite_laws.proofs.mutants.mutants_are_covered_alike.Goals as goal

pub returns : goal.returns
returns c = runs.covering_is_alike c.int_jumps_go_on.ensures c.runs_reach_the_line_the_same.ensures.tests
