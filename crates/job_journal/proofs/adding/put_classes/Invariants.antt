use Rattle.std.proofs.Common.{take}
use Rattle.job_journal.specs.Tables.{PutsClasses}
use Rattle.job_journal.proofs.adding.put_classes.Given as goal

abbrev pub invariant-loop-entry : goal.invariant-loop-entry
invariant-loop-entry l = PutsClasses (take l.entry-index l.entries) l.fn.numbers l.numbers l.fn.out l.out
