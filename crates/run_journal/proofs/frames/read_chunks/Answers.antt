use Rattle.std.proofs.Common.{List, ℕ, sym, subst}
use Rattle.run_journal.proofs.Chunks.{Chunked, chunk_more, chunks_torn}
use Rattle.run_journal.proofs.frames.read_chunks.Goals as goal

pub returns-then-chunk-len : goal.returns-then-chunk-len
returns-then-chunk-len c =
    chunks_torn c.args.rest.now c.chunks.rest c.next.new.self c.up_to-chunk.new.self c.args.content.now c.chunks.content c.extend_from_slice.new.self c.up_to-chunk.result.now c.in_ok-closing.closing c.in-Some.len c.chunks.invariant c.in-Some.ensures c.up_to-chunk.ensures.front c.if-chunk-len.true c.in_ok-closing.ensures

pub chunks-preserved : goal.chunks-preserved
chunks-preserved c =
    subst (λ (x : List ℕ). Chunked c.args.rest.now c.up_to-chunk.new.self c.args.content.now x) (sym c.in_ok-extend_from_slice.ensures.ok)
    (chunk_more c.args.rest.now c.chunks.rest c.next.new.self c.up_to-chunk.new.self c.args.content.now c.chunks.content c.up_to-chunk.result.now c.in-Some.len c.chunks.invariant c.in-Some.ensures c.up_to-chunk.ensures.front c.up_to-chunk.ensures.rest c.if-len-eq0.false c.if-chunk-len.false)
