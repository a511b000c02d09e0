use Rattle.new_history.proofs.Taking.{EntriesSoFar}
use Rattle.new_history.proofs.numbering.Numbering.entries.Given as goal

abbrev pub invariant-loop-entry : goal.invariant-loop-entry
invariant-loop-entry l = EntriesSoFar l.entries l.entry-index l.fn.self l.self l.numbers
