use Rattle.suite_laws.proofs.WitnessLaws.{premises_are_met}
use Rattle.suite_laws.proofs.mutants.mutant_laws_are_of_use.Goals as goal

pub returns : goal.returns
returns c = premises_are_met c.files_are_read_as_spelled.ensures.read c.what_is_spelled_is_written.ensures c.mutants_fit.ensures c.first_faults_are_found.ensures.accepted
