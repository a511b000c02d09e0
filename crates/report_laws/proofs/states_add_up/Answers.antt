use Rattle.report_laws.proofs.Counted.{all_counted}
use Rattle.report_laws.proofs.states_add_up.Goals as goal

pub returns : goal.returns
returns c = all_counted
