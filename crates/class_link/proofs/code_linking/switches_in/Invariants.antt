use Rattle.std.proofs.Common.{◌≡◌, take}
use Rattle.class_link.specs.Switches.{switches_in}
use Rattle.class_link.proofs.code_linking.switches_in.Given as goal

abbrev pub invariant-loop-insn : goal.invariant-loop-insn
invariant-loop-insn l = l.switches.items ≡ switches_in (take l.insn-index l.insns)
