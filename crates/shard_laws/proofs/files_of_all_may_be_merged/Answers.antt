use Rattle.shard_laws.proofs.All.{may_be_merged}
use Rattle.shard_laws.proofs.files_of_all_may_be_merged.Goals as goal

pub returns : goal.returns
returns c =
    may_be_merged c.true_records_change_nothing.ensures.same (record {
      sound = c.accepted_code_is_never_stuck.ensures;
      order = c.ordered_is_built.ensures;
      safe = c.suites_are_safe.ensures;
      fit = c.found_tests_fit.ensures;
      viable = c.viable_mutants_are_never_stuck.ensures;
      tests = c.found_are_own_tests.ensures;
      originals = c.originals_are_reusable.ensures;
      mutants = c.mutants_are_reusable.ensures.reusable;
    })
    c.records_match_their_runs.ensures.found c.class_files_are_a_profile.ensures c.answers_are_true.ensures c.whole_sets_have_no_fault.ensures.pass
