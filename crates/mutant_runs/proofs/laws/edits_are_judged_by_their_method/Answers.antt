use Rattle.mutant_runs.proofs.Judging.{judged}
use Rattle.mutant_runs.proofs.laws.edits_are_judged_by_their_method.Goals as goal

pub returns : goal.returns
returns c =
    judged c.an_edit_is_judged_by_its_method.ensures c.edited_methods_stay_first.ensures
    c.put_classes_stay_alike.ensures c.edits_are_put.ensures c.edits_differ_in_one.ensures
    c.parts_are_of_applied.ensures c.entries_add_alone.ensures
