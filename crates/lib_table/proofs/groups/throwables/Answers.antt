use Rattle.lib_table.specs.Exceptions.{throwables}
use Rattle.lib_table.proofs.groups.throwables.Goals as goal

pub returns : goal.returns
unfolding throwables
returns c = c.in_ok-classes_of.ensures
