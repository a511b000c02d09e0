use Rattle.lib_table.specs.Collected.{list_classes}
use Rattle.lib_table.proofs.groups.lists.Goals as goal

pub returns : goal.returns
unfolding list_classes
returns c = c.in_ok-classes_of.ensures
