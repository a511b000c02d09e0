use Rattle.lib_table.specs.Interfaces.{basic_interfaces}
use Rattle.lib_table.proofs.groups.basic_interfaces.Goals as goal

pub returns : goal.returns
unfolding basic_interfaces
returns c = c.in_ok-classes_of.ensures
