use Rattle.std.proofs.Common.{◌≡◌, ◌++◌, ◌+◌, drop, arith}
use Rattle.std.proofs.lemmas.Grind.{common_steps}
use Rattle.class_link.specs.View.{instruction_of, meaning_at}
use Rattle.class_link.specs.Opcodes.{instruction_by}
use Rattle.class_link.specs.Switches.{switch_in, switches_in}
use Rattle.class_link.proofs.Resolved.{dropped_behind}
use Rattle.class_link.proofs.code_linking.resolve_insns.Goals as goal

head : (c : goal.In_ok-next) → drop c.loop-insn.next c.args.switches.now ≡ switch_in c.insn-item.result ++ switches_in (drop (c.loop-insn.insn-index + 1) c.args.insns.now)
head c = grind (arith, common_steps)

pub loop-insn-preserved : goal.loop-insn-preserved
loop-insn-preserved c =
    let h = head c in
    let linked : instruction_of c.args.entries.now c.args.switches.now c.resolve_insn.result ≡ instruction_by (meaning_at c.args.entries.now) c.insn-item.result = c.resolve_insn.ensures c.args.switches.now (switches_in (drop (c.loop-insn.insn-index + 1) c.args.insns.now)) h in
    (grind (arith, common_steps, linked), rw c.in_ok-next.ensures (dropped_behind c.loop-insn.next c.args.switches.now (switch_in c.insn-item.result) _ h))
