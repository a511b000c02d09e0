use Rattle.class_records.proofs.Profile.{is_profile}
use Rattle.class_records.proofs.class_files_are_a_profile.Goals as goal

pub returns : goal.returns
returns c = is_profile c.library_is_closed.ensures
