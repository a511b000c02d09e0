use Rattle.std.proofs.Common.{◌≡◌, length, []}
use Rattle.run_journal.specs.Reading.{Open}
use Rattle.run_journal.specs.Calls.{parts_from, known_in}
use Rattle.run_journal.proofs.read.read_entries.Given as goal

abbrev pub invariant-entries : goal.invariant-entries
invariant-entries l = parts_from l.fn.rest (Open []) (known_in l.fn.runs) ≡ parts_from l.rest (Open []) (known_in l.runs)

abbrev pub decreases-entries : goal.decreases-entries
decreases-entries l = length l.rest.bytes
