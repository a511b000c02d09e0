use Rattle.lib_table.specs.Collected.{hash_classes}
use Rattle.lib_table.proofs.groups.hashes.Goals as goal

pub returns : goal.returns
unfolding hash_classes
returns c = c.in_ok-classes_of.ensures
