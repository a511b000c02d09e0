use Rattle.std.proofs.Common.{◌≡◌, drop}
use Rattle.class_asm.specs.Classes.{head_from}
use Rattle.class_asm.proofs.class.add_head.Given as goal

abbrev pub invariant-loop-line : goal.invariant-loop-line
invariant-loop-line l = head_from l.class (drop l.line-index l.lines) ≡ head_from l.fn.class l.lines
