use Rattle.method_laws.proofs.Judging.{stay_first}
use Rattle.method_laws.proofs.edited_methods_stay_first.Goals as goal

pub returns : goal.returns
returns c = stay_first
