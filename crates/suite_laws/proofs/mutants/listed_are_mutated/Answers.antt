use Rattle.suite_laws.proofs.Premises.{listed_are_mutated}
use Rattle.suite_laws.proofs.mutants.listed_are_mutated.Goals as goal

pub returns : goal.returns
returns c = listed_are_mutated
