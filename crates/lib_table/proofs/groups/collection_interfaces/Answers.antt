use Rattle.lib_table.specs.Interfaces.{collection_interfaces}
use Rattle.lib_table.proofs.groups.collection_interfaces.Goals as goal

pub returns : goal.returns
unfolding collection_interfaces
returns c = c.in_ok-classes_of.ensures
