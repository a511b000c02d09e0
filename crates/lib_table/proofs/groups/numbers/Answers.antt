use Rattle.lib_table.specs.LangClasses.{numbers}
use Rattle.lib_table.proofs.groups.numbers.Goals as goal

pub returns : goal.returns
unfolding numbers
returns c = c.in_ok-classes_of.ensures
