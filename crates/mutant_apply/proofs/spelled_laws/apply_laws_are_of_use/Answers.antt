use Rattle.mutant_apply.proofs.WitnessLaws.{sample_has_mutant}
use Rattle.mutant_apply.proofs.spelled_laws.apply_laws_are_of_use.Goals as goal

pub returns : goal.returns
returns c = sample_has_mutant c.files_are_read_as_spelled.ensures.read
