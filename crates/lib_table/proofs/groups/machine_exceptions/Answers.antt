use Rattle.lib_table.specs.Exceptions.{machine_exceptions}
use Rattle.lib_table.proofs.groups.machine_exceptions.Goals as goal

pub returns : goal.returns
unfolding machine_exceptions
returns c = c.in_ok-classes_of.ensures
