use Rattle.job_answers.proofs.Anew.{from_scratch}
use Rattle.job_answers.proofs.laws.answers_are_from_scratch.Goals as goal

pub returns : goal.returns
returns c =
    from_scratch c.true_records_change_nothing.ensures c.answers_are_of_all_tests.ensures c.answers_are_as_asked.ensures
    c.costs_are_as_asked.ensures c.refusals_cost_originals.ensures
