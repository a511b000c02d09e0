use Rattle.std.proofs.Common.{◌≡◌, length}
use Rattle.run_journal.specs.Contents.{no_known}
use Rattle.run_journal.specs.Reading.{behind_head}
use Rattle.run_journal.specs.Calls.{parts_from}
use Rattle.run_journal.proofs.frames.read_header.Given as goal

abbrev pub invariant-bytes : goal.invariant-bytes
invariant-bytes l = parts_from l.fn.rest (behind_head l.fn.header) no_known ≡ parts_from l.rest (behind_head l.wanted) no_known

abbrev pub decreases-bytes : goal.decreases-bytes
decreases-bytes l = length l.wanted
