use Rattle.std.proofs.Common.{◌≡◌, ◌+◌, arith}
use Rattle.mt_insn.specs.Code.{code_length, size_at, places}
use Rattle.mt_insn.proofs.Sizes.{cut_at, end_moves, places_move}
use Rattle.mt_insn.proofs.size.places_of.Goals as goal

pub overflow_cast-place-in-loop-insn : goal.overflow_cast-place-in-loop-insn
overflow_cast-place-in-loop-insn c =
    let insns = c.args.insns.now in
    let cut = cut_at insns c.loop-insn.insn-index c.insn-item.result c.loop-insn-test.true c.insn-item.is in
    let moved = end_moves insns c.loop-insn.insn-index c.loop-insn.place (code_length insns) c.insn-item.result cut c.loop-insn.invariant.0 in
    record { fits = omega (arith, moved.1, c.requires, c.from.ensures, c.size_at.ensures.size) }

pub loop-insn-preserved : goal.loop-insn-preserved
loop-insn-preserved c =
    let insns = c.args.insns.now in
    let place = c.loop-insn.place in
    let insn = c.insn-item.result in
    let cut = cut_at insns c.loop-insn.insn-index insn c.loop-insn-test.true c.insn-item.is in
    let moved = end_moves insns c.loop-insn.insn-index place (code_length insns) insn cut c.loop-insn.invariant.0 in
    let end : c.from.result + c.size_at.result ≡ place + size_at place insn = omega (arith, c.from.ensures, c.size_at.ensures.size) in
    rw (end, c.in_ok-push.ensures.ok) (moved.0, omega (arith, moved.1, c.requires), places_move insns c.loop-insn.insn-index place insn c.loop-insn.places (places insns) cut c.loop-insn.invariant.2)
