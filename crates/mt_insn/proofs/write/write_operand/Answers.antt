use Rattle.std.proofs.Common.{ℕ, ◌<◌, ◌^◌, List, length, subst, sym, slice_index_or}
use Rattle.std.specs.Prelude.{ℤ}
use Rattle.std.specs.List.{AllByRecursion}
use Rattle.class_model.specs.declared.instruction.Arg.{Arg}
use Rattle.mt_insn.specs.Code.{IsArg, targets_in, arg_pairs}
use Rattle.mt_insn.specs.declared.opcode.Form.{Form}
use Rattle.mt_insn.proofs.Written.{pairs_below}
use Rattle.mt_insn.proofs.write.write_operand.Goals as goal

pub write_lookup-requires-clause-known : goal.write_lookup-requires-clause-known
write_lookup-requires-clause-known c =
    let arg = c.args.arg.now in
    let count = length c.args.starts.now in
    let formed = subst (λ (form : Form). IsArg form arg) c.in-Lookup.is c.requires.form in
    let known = subst (λ (a : Arg). AllByRecursion (λ n. (n < count) × (n < 2 ^ 32)) (targets_in a)) formed.0 c.requires.known in
    subst (λ (pairs : List (ℤ × ℕ)). (k : ℕ) (d : ℤ × ℕ) → k < length pairs → (slice_index_or pairs k d).1 < count) (sym c.lookup_pairs.ensures) (pairs_below count (arg_pairs arg) known.1)
