use Rattle.std.proofs.Common.{◌≡◌, ◌+◌, length, subst, sym, ap, ◌∙◌, List, ℕ, arith}
use Rattle.mt_insn.specs.Order.{Ascends}
use Rattle.mt_insn.specs.Targets.{starts_of}
use Rattle.mt_insn.proofs.PlacedLaws.{are_within, starts_ascend, places_fit}
use Rattle.mt_insn.proofs.whole.read_code.Goals as goal

pub resolve-requires-clause-order : goal.resolve-requires-clause-order
resolve-requires-clause-order c =
    let within = are_within c.args.base c.args.pool.now c.args.bytes.now c.in_ok-insns.insns (λ i. (c.type_inv.bytes i).fits) c.in_ok-insns.ensures in
    let same : c.as_slice-2.result.now ≡ starts_of c.in_ok-insns.insns = c.as_slice-2.ensures ∙ c.in_ok-starts.ensures ∙ ap starts_of c.as_slice.ensures in
    subst (λ (starts : List ℕ). Ascends starts) (sym same) (starts_ascend 0 (0 + length c.args.bytes.now) c.in_ok-insns.insns within)

pub resolve-requires-clause-room : goal.resolve-requires-clause-room
resolve-requires-clause-room c =
    let within = are_within c.args.base c.args.pool.now c.args.bytes.now c.in_ok-insns.insns (λ i. (c.type_inv.bytes i).fits) c.in_ok-insns.ensures in
    places_fit c.args.base 0 (0 + length c.args.bytes.now) c.in_ok-insns.insns (omega (arith, c.requires)) within
