use Rattle.std.proofs.Common.{◌≡◌, true, [], ◌∷◌, Some, refl}
use Rattle.std.proofs.lemmas.List.Elements.{All-nil, All-cons}
use Rattle.record_rules.specs.Matching.{matches, first_match}
use Rattle.record_rules.specs.Truth.{IsTrueRecord}
use Rattle.reuse_laws.specs.Jobs.{AreTrue}
use Rattle.reuse_laws.proofs.Reused.{reused, under_limits}
use Rattle.reuse_laws.proofs.Jobs.{ends_same}
use Rattle.record_tries.specs.Tries.{profile, neg_on, further, passed, failed, several, shorter, both}
use Rattle.record_tries.proofs.Profile.{is_profile}
use Rattle.record_tries.proofs.True.{passed_true, failed_true, further_asked}
use Rattle.record_tries.proofs.reuse_laws_are_of_use.Goals as goal

matching : matches passed (neg_on further 15) ≡ true
unfolding matches
matching = refl

both_true : AreTrue profile both
both_true = All-cons (IsTrueRecord profile) failed (passed ∷ []) failed_true (All-cons (IsTrueRecord profile) passed [] passed_true (All-nil (IsTrueRecord profile)))

found_first : first_match several (neg_on further 15) ≡ Some shorter
unfolding matches first_match
found_first = refl

pub returns : goal.returns
returns c = record {
  first = found_first;
  again = reused profile (neg_on further 15) passed is_profile further_asked passed_true matching;
  written = under_limits profile passed 15 passed_true refl;
  same = ends_same profile both (neg_on further 15) is_profile both_true further_asked;
}
