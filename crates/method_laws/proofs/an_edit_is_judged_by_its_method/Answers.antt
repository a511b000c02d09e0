use Rattle.method_laws.proofs.Judging.{judged_by_method}
use Rattle.method_laws.proofs.an_edit_is_judged_by_its_method.Goals as goal

pub returns : goal.returns
returns c = judged_by_method
