use Rattle.test_select.proofs.Ascending.{all_ascend}
use Rattle.test_select.proofs.laws.cells_ascend.Goals as goal

pub returns : goal.returns
returns c = all_ascend
