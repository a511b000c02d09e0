use Rattle.run_journal.specs.Seen.{HalfEntries}
use Rattle.run_journal.proofs.entries.read_counted_entries.Given as goal

abbrev pub invariant-loop : goal.invariant-loop
invariant-loop l = HalfEntries l.classes l.count l.counter l.fn.cur l.cur l.seen l.entries
