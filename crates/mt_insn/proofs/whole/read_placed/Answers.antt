use Rattle.std.proofs.Common.{◌≡◌, ◌<◌, ℕ, length, Ok, subst, sym, ◌∙◌, arith}
use Rattle.std.proofs.lemmas.Result.{err_from_is_err_and}
use Rattle.class_model.specs.declared.fault.ClassFault.TheVariants as fault
use Rattle.codec_rules.specs.Reading.{until_end}
use Rattle.codec_rules.specs.Spelling.{input_at}
use Rattle.codec_rules.proofs.Loops.{until_goes_on, whole_ends, whole_is_done}
use Rattle.mt_insn.specs.Targets.{placed_at}
use Rattle.mt_insn.proofs.PlacedLaws.{placed, placed_there, placed_shortens, insn_shortens, insn_moves, placed_fails}
use Rattle.mt_insn.proofs.whole.read_placed.Goals as goal

pub returns-in_err-insn : goal.returns-in_err-insn
returns-in_err-insn c =
    let p = err_from_is_err_and c.from_residual.result c.from_residual.ensures.1 in
    let read = placed_at c.args.base c.args.pool.now in
    let some : 0 < length c.loop-code.code.bytes = omega (arith, c.loop-code-test.true, c.left.ensures) in
    rw (p.1, p.2) (whole_ends fault.Memory c.in_err-insn.field-0.0 read c.loop-code.all c.loop-code.code (until_end read (input_at 0 c.args.bytes.now)) some (placed_fails c.args.base c.args.pool.now c.loop-code.code fault.Memory c.in_err-insn.field-0.0 c.in_err-insn.ensures) c.loop-code.invariant.0)

pub loop-code-smaller : goal.loop-code-smaller
loop-code-smaller c = (insn_shortens c.args.base c.args.pool.now c.loop-code.code c.in_ok-insn.insn c.read_insn.new.code c.place-place.ensures.known.bytes c.in_ok-insn.ensures).0

pub loop-code-preserved : goal.loop-code-preserved
loop-code-preserved c =
    let base = c.args.base in
    let pool = c.args.pool.now in
    let read = placed_at base pool in
    let old = c.loop-code.code in
    let new = c.read_insn.new.code in
    let bytes = c.place-place.ensures.known.bytes in
    let some : 0 < length old.bytes = omega (arith, c.loop-code-test.true, c.left.ensures) in
    let there : placed_at base pool old ≡ Ok (placed c.place-place.result c.in_ok-insn.insn, new) = subst (λ (place : ℕ). placed_at base pool old ≡ Ok (placed place c.in_ok-insn.insn, new)) (sym c.place-place.ensures.place) (placed_there base pool old c.in_ok-insn.insn new c.in_ok-insn.ensures) in (
      rw c.in_ok-push.ensures.ok (until_goes_on read (placed_shortens base pool) c.loop-code.all old (placed c.place-place.result c.in_ok-insn.insn) new (until_end read (input_at 0 c.args.bytes.now)) some bytes there c.loop-code.invariant.0),
      insn_moves base pool old c.in_ok-insn.insn new bytes c.in_ok-insn.ensures ∙ c.loop-code.invariant.1,
    )

pub returns : goal.returns
returns c =
    let read = placed_at c.args.base c.args.pool.now in
    let none : length c.loop-code.code.bytes ≡ 0 = omega (arith, c.loop-code-test.false, c.left.ensures) in
    whole_is_done read c.loop-code.all c.loop-code.code (until_end read (input_at 0 c.args.bytes.now)) none c.loop-code.invariant.0
