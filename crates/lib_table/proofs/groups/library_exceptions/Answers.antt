use Rattle.lib_table.specs.Exceptions.{library_exceptions}
use Rattle.lib_table.proofs.groups.library_exceptions.Goals as goal

pub returns : goal.returns
unfolding library_exceptions
returns c = c.in_ok-classes_of.ensures
