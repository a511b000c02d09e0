use Rattle.lib_table.specs.LangClasses.{objects}
use Rattle.lib_table.proofs.groups.objects.Goals as goal

pub returns : goal.returns
unfolding objects
returns c = c.in_ok-classes_of.ensures
