use Rattle.shard_laws.proofs.Merged.{as_one_call}
use Rattle.shard_laws.proofs.merges_are_as_one_call.Goals as goal

pub returns : goal.returns
returns c =
    as_one_call c.true_records_change_nothing.ensures.same (record {
      sound = c.accepted_code_is_never_stuck.ensures;
      order = c.ordered_is_built.ensures;
      safe = c.suites_are_safe.ensures;
      fit = c.found_tests_fit.ensures;
      viable = c.viable_mutants_are_never_stuck.ensures;
      tests = c.found_are_own_tests.ensures;
      originals = c.originals_are_reusable.ensures;
      mutants = c.mutants_are_reusable.ensures.reusable;
    })
    c.answers_are_from_scratch.ensures
