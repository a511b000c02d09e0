use Rattle.std.proofs.Common.{◌≡◌, ℕ, subst, arith}
use Rattle.mt_insn.specs.Code.{code_length, size_at}
use Rattle.mt_insn.proofs.Sizes.{cut_at, end_moves}
use Rattle.mt_insn.proofs.Written.{place_near}
use Rattle.mt_insn.proofs.write.jumps_fit.Goals as goal

pub jump_fits-requires-clause-here : goal.jump_fits-requires-clause-here
jump_fits-requires-clause-here c = place_near c.args.insns.now c.loop-insn.insn-index c.loop-insn.place (code_length c.args.insns.now) c.loop-insn.invariant.1 c.requires.room

pub size_at-requires : goal.size_at-requires
size_at-requires c = let near = place_near c.args.insns.now c.loop-insn.insn-index c.loop-insn.place (code_length c.args.insns.now) c.loop-insn.invariant.1 c.requires.room in omega (arith, near, c.from-in-loop-insn.ensures)

pub overflow_cast-place : goal.overflow_cast-place
overflow_cast-place c =
    let insns = c.args.insns.now in
    let place = c.loop-insn.place in
    let insn = c.insn-item.result in
    let i = c.loop-insn.insn-index in
    let cut = cut_at insns i insn c.loop-insn-test.true c.insn-item.is in
    let moved = end_moves insns i place (code_length insns) insn cut c.loop-insn.invariant.1 in
    let size : c.size_at.result ≡ size_at place insn = subst (λ (n : ℕ). c.size_at.result ≡ size_at n insn) c.from-in-loop-insn.ensures c.size_at.ensures.size in
    record { fits = omega (arith, moved.1, c.requires.room, c.from.ensures, size) }
