use Rattle.mutant_runs.proofs.ProgramLaws.{made_by}
use Rattle.mutant_runs.proofs.laws.edits_make.Goals as goal

pub returns : goal.returns
returns c =
    made_by c.parts_are_of_applied.ensures c.entries_add_alone.ensures c.edits_are_put.ensures
    c.edits_are_spelled.ensures c.instructions_have_numbers.ensures.spelled
