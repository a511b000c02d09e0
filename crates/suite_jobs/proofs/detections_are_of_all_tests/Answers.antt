use Rattle.suite_jobs.proofs.Detected.{of_all_tests}
use Rattle.suite_jobs.proofs.detections_are_of_all_tests.Goals as goal

pub returns : goal.returns
returns c =
    of_all_tests (record {
      sound = c.accepted_code_is_never_stuck.ensures;
      order = c.ordered_is_built.ensures;
      safe = c.suites_are_safe.ensures;
      fit = c.found_tests_fit.ensures;
      viable = c.viable_mutants_are_never_stuck.ensures;
      tests = c.found_are_own_tests.ensures;
      originals = c.originals_are_reusable.ensures;
      mutants = c.mutants_are_reusable.ensures.reusable;
      same = c.true_records_change_nothing.ensures.same;
      are_true = c.true_records_change_nothing.ensures.kept;
    })
    c.records_say_runs.ensures c.selected_tests_always_suffice.ensures c.mutants_are_reached_alike.ensures c.unreached_mutants_run_alike.ensures
