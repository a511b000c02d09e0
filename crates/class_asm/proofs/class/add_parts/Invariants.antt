use Rattle.std.proofs.Common.{◌≡◌, drop}
use Rattle.class_asm.specs.Classes.{parts_from}
use Rattle.class_asm.proofs.class.add_parts.Given as goal

abbrev pub invariant-loop-place : goal.invariant-loop-place
invariant-loop-place l = parts_from l.last l.class (drop l.place l.lines) ≡ parts_from l.last l.fn.class l.lines
