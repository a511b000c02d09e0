use Rattle.class_records.specs.Profile.{profile}
use Rattle.suite_records.proofs.true_records_change_nothing.Goals as goal

pub returns : goal.returns
returns c = record {
  same = λ old x true_old h. c.reuse_changes_nothing.ensures.same profile old x c.class_files_are_a_profile.ensures true_old h.asked;
  kept = λ x r h e. c.records_of_files_are_true.ensures x r h.asked h.spelled h.ordered e;
}
