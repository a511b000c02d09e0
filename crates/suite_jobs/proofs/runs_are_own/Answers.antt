use Rattle.suite_jobs.proofs.Own.{runs_own}
use Rattle.suite_jobs.proofs.runs_are_own.Goals as goal

pub returns : goal.returns
returns c =
    runs_own (record {
      sound = c.accepted_code_is_never_stuck.ensures;
      order = c.ordered_is_built.ensures;
      safe = c.suites_are_safe.ensures;
      fit = c.found_tests_fit.ensures;
      viable = c.viable_mutants_are_never_stuck.ensures;
      tests = c.found_are_own_tests.ensures;
      originals = c.originals_are_reusable.ensures;
      mutants = c.mutants_are_reusable.ensures.reusable;
      same = c.true_records_change_nothing.ensures.same;
      are_true = c.true_records_change_nothing.ensures.kept;
    })
