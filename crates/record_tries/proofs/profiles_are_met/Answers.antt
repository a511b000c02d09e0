use Rattle.record_tries.proofs.Profile.{is_profile}
use Rattle.record_tries.proofs.True.{original_asked, further_asked, original_spelled}
use Rattle.record_tries.proofs.profiles_are_met.Goals as goal

pub returns : goal.returns
returns c = record { profile = is_profile; original = original_asked; further = further_asked; spelled = original_spelled }
