use Rattle.true_records.proofs.Putting.{mutants_may}
use Rattle.true_records.proofs.laws.mutants_may_be_recorded.Goals as goal

pub returns : goal.returns
returns c =
    mutants_may c.parts_are_of_applied.ensures c.edits_make.ensures
    c.mutants_are_reusable.ensures.reusable
