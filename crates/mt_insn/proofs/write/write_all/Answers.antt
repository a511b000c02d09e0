use Rattle.std.proofs.Common.{◌≡◌, ℕ, ◌+◌, ◌++◌, sym, subst, arith}
use Rattle.codec_rules.specs.Spelling.{spelled_from}
use Rattle.mt_insn.specs.Code.{code_length, size_at, HasForm, raws_from}
use Rattle.mt_insn.specs.Spelling.{raw_bytes}
use Rattle.mt_insn.proofs.Forms.{few_keys}
use Rattle.mt_insn.proofs.Sizes.{cut_at, end_moves}
use Rattle.mt_insn.proofs.Written.{place_near, jumps_move, out_moves}
use Rattle.mt_insn.proofs.write.write_all.Goals as goal

pub write_insn-requires-clause-few : goal.write_insn-requires-clause-few
write_insn-requires-clause-few c =
    let insns = c.args.insns.now in
    let place = c.loop-insn.place in
    let insn = c.insn-item.result in
    let i = c.loop-insn.insn-index in
    let cut = cut_at insns i insn c.loop-insn-test.true c.insn-item.is in
    let moved = end_moves insns i place (code_length insns) insn cut c.loop-insn.invariant.1 in
    let formed = subst HasForm (sym c.insn-item.is) (c.requires.forms i insn c.loop-insn-test.true) in
    few_keys insn place formed (omega (arith, moved.1, c.requires.room))

pub write_insn-requires-clause-short : goal.write_insn-requires-clause-short
write_insn-requires-clause-short c =
    let insns = c.args.insns.now in
    let place = c.loop-insn.place in
    let insn = c.insn-item.result in
    let i = c.loop-insn.insn-index in
    let cut = cut_at insns i insn c.loop-insn-test.true c.insn-item.is in
    (jumps_move c.args.starts.now insns i place insn cut c.loop-insn.invariant.0).0

pub write_insn-requires-clause-here : goal.write_insn-requires-clause-here
write_insn-requires-clause-here c = place_near c.args.insns.now c.loop-insn.insn-index c.loop-insn.place (code_length c.args.insns.now) c.loop-insn.invariant.1 c.requires.room

pub size_at-requires : goal.size_at-requires
size_at-requires c = let near = place_near c.args.insns.now c.loop-insn.insn-index c.loop-insn.place (code_length c.args.insns.now) c.loop-insn.invariant.1 c.requires.room in omega (arith, near, c.from-in-loop-insn.ensures)

pub overflow_cast-place : goal.overflow_cast-place
overflow_cast-place c =
    let insns = c.args.insns.now in
    let place = c.loop-insn.place in
    let insn = c.insn-item.result in
    let i = c.loop-insn.insn-index in
    let cut = cut_at insns i insn c.loop-insn-test.true c.insn-item.is in
    let moved = end_moves insns i place (code_length insns) insn cut c.loop-insn.invariant.1 in
    let size : c.size_at.result ≡ size_at place insn = subst (λ (n : ℕ). c.size_at.result ≡ size_at n insn) c.from-in-loop-insn.ensures c.size_at.ensures.size in
    record { fits = omega (arith, moved.1, c.requires.room, c.from.ensures, size) }

pub loop-insn-preserved : goal.loop-insn-preserved
loop-insn-preserved c =
    let insns = c.args.insns.now in
    let place = c.loop-insn.place in
    let insn = c.insn-item.result in
    let i = c.loop-insn.insn-index in
    let cut = cut_at insns i insn c.loop-insn-test.true c.insn-item.is in
    let moved = end_moves insns i place (code_length insns) insn cut c.loop-insn.invariant.1 in
    let size : c.size_at.result ≡ size_at place insn = subst (λ (n : ℕ). c.size_at.result ≡ size_at n insn) c.from-in-loop-insn.ensures c.size_at.ensures.size in
    let end : c.from.result + c.size_at.result ≡ place + size_at place insn = omega (arith, c.from.ensures, size) in
    let starts = c.args.starts.now in
    let whole = c.args.out.now ++ spelled_from raw_bytes 0 (raws_from starts 0 insns) in
    rw (end, c.in_ok-write_insn.ensures) ((jumps_move starts insns i place insn cut c.loop-insn.invariant.0).1, moved.0, out_moves starts insns i place insn c.loop-insn.out whole cut c.loop-insn.invariant.2)
