use Rattle.lib_table.specs.Collected.{assertions}
use Rattle.lib_table.proofs.groups.assertions.Goals as goal

pub returns : goal.returns
unfolding assertions
returns c = c.in_ok-classes_of.ensures
