use Rattle.std.proofs.Common.{length, ap, arith, length-drop}
use Rattle.std.specs.List.{flat_map}
use Rattle.run_journal.specs.Entries.{chunk_bytes, cut_into}
use Rattle.run_journal.proofs.Cutting.{one_chunk, last_chunk}
use Rattle.run_journal.proofs.entry.put_entry.Goals as goal

pub chunks-smaller : goal.chunks-smaller
chunks-smaller c =
    let d = ap length c.cut.ensures.behind in
    let l = length-drop 255 c.chunks.rest.now in
    let t = c.chunks-test.true in
    omega (arith, d, l, t)

pub chunks-preserved : goal.chunks-preserved
chunks-preserved c =
    one_chunk c.chunks.out c.push.new.self c.extend_from_slice.new.self c.chunks.rest.now c.cut.result.0.now c.cut.result.1.now _ c.chunks-test.true c.cut.ensures.front c.cut.ensures.behind
    c.in_ok-push.ensures.ok c.in_ok-extend_from_slice.ensures.ok c.chunks.invariant

pub returns : goal.returns
returns c =
    last_chunk c.chunks.out c.push-2.new.self c.push-3.new.self c.chunks.rest.now c.args.out.now (flat_map chunk_bytes (cut_into (length c.args.content.now) c.args.content.now)) c.chunks-test.false c.chunks.invariant c.in_ok-push-2.ensures.ok c.in_ok-push-3.ensures.ok
