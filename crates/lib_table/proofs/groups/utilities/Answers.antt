use Rattle.lib_table.specs.Collected.{utility_classes}
use Rattle.lib_table.proofs.groups.utilities.Goals as goal

pub returns : goal.returns
unfolding utility_classes
returns c = c.in_ok-classes_of.ensures
