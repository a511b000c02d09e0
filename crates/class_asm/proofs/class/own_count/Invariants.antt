use Rattle.std.proofs.Common.{◌≡◌, ◌+◌, drop}
use Rattle.class_asm.specs.Classes.{own_count}
use Rattle.class_asm.proofs.class.own_count.Given as goal

abbrev pub invariant-loop-place : goal.invariant-loop-place
invariant-loop-place l = l.place + own_count (drop l.place l.lines) ≡ own_count l.lines
