use Rattle.method_laws.proofs.Settings.{keep_faults}
use Rattle.method_laws.proofs.other_methods_keep_their_faults.Goals as goal

pub returns : goal.returns
returns c = keep_faults
