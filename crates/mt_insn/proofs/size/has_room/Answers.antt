use Rattle.std.proofs.Common.{◌^◌, sym, arith}
use Rattle.std.proofs.lemmas.Bool.{le-ltb}
use Rattle.mt_insn.specs.Code.{code_length}
use Rattle.mt_insn.proofs.Sizes.{cut_at, end_moves}
use Rattle.mt_insn.proofs.size.has_room.Goals as goal

pub returns-then-end-gt65535 : goal.returns-then-end-gt65535
returns-then-end-gt65535 c =
    let insns = c.args.insns.now in
    let cut = cut_at insns c.loop-insn.insn-index c.insn-item.result c.loop-insn-test.true c.insn-item.is in
    let moved = end_moves insns c.loop-insn.insn-index c.loop-insn.place (code_length insns) c.insn-item.result cut c.loop-insn.invariant.0 in
    sym (le-ltb (code_length insns) (2 ^ 16) (omega (arith, moved.1, c.if-end-gt65535.true, c.from.ensures, c.size_at.ensures.size)))
