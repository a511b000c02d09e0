use Rattle.std.proofs.Common.{◌≡◌, map, take, drop}
use Rattle.class_link.specs.View.{instruction_of, meaning_at}
use Rattle.class_link.specs.Opcodes.{instruction_by}
use Rattle.class_link.specs.Switches.{switches_in}
use Rattle.class_link.proofs.code_linking.resolve_insns.Given as goal

abbrev pub invariant-loop-insn : goal.invariant-loop-insn
invariant-loop-insn l =
    (map (instruction_of l.entries l.switches) l.instructions.items ≡ map (instruction_by (meaning_at l.entries)) (take l.insn-index l.insns))
    × (drop l.next l.switches ≡ switches_in (drop l.insn-index l.insns))
