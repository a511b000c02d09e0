use Rattle.job_answers.proofs.Recorded.{originals_have}
use Rattle.job_answers.proofs.laws.originals_have_records.Goals as goal

pub returns : goal.returns
returns c =
    originals_have (record {
      sound = c.accepted_code_is_never_stuck.ensures;
      order = c.ordered_is_built.ensures;
      safe = c.suites_are_safe.ensures;
      fit = c.found_tests_fit.ensures;
      viable = c.viable_mutants_are_never_stuck.ensures;
      tests = c.found_are_own_tests.ensures;
      originals = c.originals_are_reusable.ensures;
      mutants = c.mutants_are_reusable.ensures.reusable;
    })
