use Rattle.suite_laws.proofs.SelectedLaws as selected
use Rattle.suite_laws.proofs.mutants.selected_tests_suffice.Goals as goal

pub returns : goal.returns
returns c = selected.selected_suffice c.unreached_mutants_run_alike.ensures c.mutants_are_reached_alike.ensures c.mutants_are_covered_alike.ensures
