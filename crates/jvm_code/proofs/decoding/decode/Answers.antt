use Rattle.std.proofs.Common.{◌≡◌, ◌+◌, length, take, take_all, subst, sym, arith}
use Rattle.jvm_code.specs.Decoded.{AreDecoded}
use Rattle.jvm_code.proofs.Listing.{decoded_next}
use Rattle.jvm_code.proofs.decoding.decode.Goals as goal

pub loop-instruction-preserved : goal.loop-instruction-preserved
loop-instruction-preserved c =
    let longs = c.loop-instruction.longs in
    let k = c.loop-instruction.instruction-index in
    let xs = c.args.instructions.now in
    let n : c.in-Ok.long ≡ length longs.items = grind (arith, c.in-Ok.ensures, c.len.ensures, longs.ok.0) in
    subst (λ t. AreDecoded (take (k + 1) xs) t c.list_long.new.longs.items) (sym c.in_ok-push.ensures.items)
    (decoded_next xs k c.loop-instruction.ops.items _ longs.items c.list_long.new.longs.items c.in-Ok.long c.loop-instruction-test.true n c.loop-instruction.invariant c.in_ok-list_long.ensures.kept c.in_ok-list_long.ensures.listed c.decode_one.ensures)

pub returns : goal.returns
returns c =
    let xs = c.args.instructions.now in
    subst (λ t. AreDecoded t c.loop-instruction.ops.items c.loop-instruction.longs.items) (take_all c.loop-instruction.instruction-index xs c.loop-instruction-test.false) c.loop-instruction.invariant
