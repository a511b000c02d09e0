use Rattle.lib_table.specs.LangClasses.{texts}
use Rattle.lib_table.proofs.groups.texts.Goals as goal

pub returns : goal.returns
unfolding texts
returns c = c.in_ok-classes_of.ensures
