use Rattle.suite_laws.proofs.AcceptedLaws as accepted
use Rattle.suite_laws.proofs.mutants.selected_tests_always_suffice.Goals as goal

pub returns : goal.returns
returns c = accepted.always_suffice c.viable_mutants_are_never_stuck.ensures c.selected_tests_suffice.ensures
