use Rattle.std.proofs.Common.{◌++◌, length}
use Rattle.std.specs.List.{flat_map}
use Rattle.run_journal.specs.Entries.{chunk_bytes, cut_into}
use Rattle.run_journal.proofs.Cutting.{Halfway}
use Rattle.run_journal.proofs.entry.put_entry.Given as goal

abbrev pub invariant-chunks : goal.invariant-chunks
invariant-chunks l =
    Halfway l.out l.rest (l.fn.out ++ flat_map chunk_bytes (cut_into (length l.fn.content) l.fn.content))

abbrev pub decreases-chunks : goal.decreases-chunks
decreases-chunks l = length l.rest
