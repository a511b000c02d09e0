use Rattle.lib_table.specs.Exceptions.{errors}
use Rattle.lib_table.proofs.groups.errors.Goals as goal

pub returns : goal.returns
unfolding errors
returns c = c.in_ok-classes_of.ensures
