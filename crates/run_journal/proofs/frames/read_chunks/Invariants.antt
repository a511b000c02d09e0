use Rattle.std.proofs.Common.{length}
use Rattle.run_journal.proofs.Chunks.{Chunked}
use Rattle.run_journal.proofs.frames.read_chunks.Given as goal

abbrev pub invariant-chunks : goal.invariant-chunks
invariant-chunks l = Chunked l.fn.rest l.rest l.fn.content l.content

abbrev pub decreases-chunks : goal.decreases-chunks
decreases-chunks l = length l.rest.bytes
