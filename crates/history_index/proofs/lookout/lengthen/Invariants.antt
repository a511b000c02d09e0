use Rattle.std.proofs.Common.{take}
use Rattle.history_index.specs.Lookouts.{Lengthens}
use Rattle.history_index.proofs.lookout.lengthen.Given as goal

abbrev pub invariant-loop-entry : goal.invariant-loop-entry
invariant-loop-entry l = Lengthens l.test l.before (take l.entry-index l.consulted) l.fn.runs l.runs
