use Rattle.job_answers.proofs.AsAsked.{answers_as_asked}
use Rattle.job_answers.proofs.laws.answers_are_as_asked.Goals as goal

pub returns : goal.returns
returns c =
    answers_as_asked c.answers_are_of_all_tests.ensures
    (record {
      sound = c.accepted_code_is_never_stuck.ensures;
      order = c.ordered_is_built.ensures;
      safe = c.suites_are_safe.ensures;
      fit = c.found_tests_fit.ensures;
      viable = c.viable_mutants_are_never_stuck.ensures;
      tests = c.found_are_own_tests.ensures;
      originals = c.originals_are_reusable.ensures;
      mutants = c.mutants_are_reusable.ensures.reusable;
    })
    c.true_records_change_nothing.ensures.same c.records_say_runs.ensures c.mutants_are_reached_alike.ensures c.new_records_go_by_runs.ensures.apart
